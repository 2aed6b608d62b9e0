-- Words of 64 bits as numbers modulo 2 ^ 64. Definitions only.
use Rattle.std.specs.Prelude.{ℕ, ◌+◌, ◌-◌, ◌*◌, ◌/◌, ◌%◌, ◌^◌}

-- the word after n
abbrev pub grown : ℕ → ℕ
grown n = (n + 1) % 2 ^ 64

-- a - b, modulo 2 ^ 64
abbrev pub difference : ℕ → ℕ → ℕ
difference a b = (a + (2 ^ 64 - b)) % 2 ^ 64

unfoldable pub product : ℕ → ℕ → ℕ
product a b = a * b % 2 ^ 64

-- the n highest bits of x, n counted modulo 64, leave at the top and come back at the bottom
unfoldable pub rotated : ℕ → ℕ → ℕ
rotated x n = let k = n % 64 in x * 2 ^ k % 2 ^ 64 + x / 2 ^ (64 - k)
