-- Numbers in a list of bytes, big-endian; a byte past the end counts as 0. Definitions only.
use Rattle.std.specs.Prelude.{ℕ, ◌+◌, ◌*◌, Bool, List, get_or, eqb, leb, Float}
use Rattle.std.specs.Float.Ieee.{of_bits}
use Rattle.std.specs.Float.{binary32, binary64}

abbrev pub be16 : List ℕ → ℕ → ℕ
be16 s i = get_or s i 0 * 256 + get_or s (i + 1) 0

unfoldable pub be32 : List ℕ → ℕ → ℕ
be32 s i = be16 s i * 65536 + be16 s (i + 2)

unfoldable pub be64 : List ℕ → ℕ → ℕ
be64 s i = be32 s i * 4294967296 + be32 s (i + 4)

-- a float by its bits: `of_bits` gives nan at each pattern of a NaN
abbrev pub f32_at : List ℕ → ℕ → Float
f32_at s i = of_bits binary32 (be32 s i)

abbrev pub f64_at : List ℕ → ℕ → Float
f64_at s i = of_bits binary64 (be64 s i)

abbrev pub flag_at : List ℕ → ℕ → Bool
flag_at s i = eqb (get_or s i 0) 1

-- a byte is at most m
abbrev pub up_to : List ℕ → ℕ → ℕ → Bool
up_to v i m = leb (get_or v i 0) m
