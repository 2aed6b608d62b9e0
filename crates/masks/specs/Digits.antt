-- A number in plain digits. Definitions only.
use Rattle.std.specs.Prelude.{ℕ, ◌+◌, ◌-◌, ◌*◌, List, [], ◌∷◌, length, ◌==◌, nat_lt, Option, Some, None}
use Rattle.sequences.specs.Pick.{pick}

-- at most a million: a size above that is too large, and a depth the deepest
abbrev pub digits_held : ℕ → ℕ
digits_held n = pick (nat_lt n 1000000) n 1000000

-- n so far, and the digits that are left, from 0 (48) to 9 (57)
unfoldable pub number_from : ℕ → List ℕ → Option ℕ
number_from n [] = Some n
number_from n (c ∷ cs) = pick (nat_lt c 48) None (pick (nat_lt 57 c) None (number_from (digits_held (n * 10 + (c - 48))) cs))

-- one digit at least
unfoldable pub digits_number : List ℕ → Option ℕ
digits_number s = pick (length s == 0) None (number_from 0 s)
