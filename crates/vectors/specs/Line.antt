-- A number in hexadecimal digits. Definitions only.
use Rattle.std.specs.Prelude.{ℕ, ◌+◌, ◌-◌, ◌*◌, List, ltb, get_or}
use Rattle.sequences.specs.Pick.{pick}
use Rattle.sequences.specs.Times.{times}

-- 0 to 9 and a to f; any other byte counts as 0
unfoldable pub digit_of : ℕ → ℕ
digit_of b = pick (ltb b 48) 0 (pick (ltb b 58) (b - 48) (pick (ltb b 97) 0 (pick (ltb b 103) (b - 87) 0)))

-- the number that the n bytes of s from an index on stand for
unfoldable pub number_at : List ℕ → ℕ → ℕ → ℕ
number_at s at n = times (λ i w. w * 16 + digit_of (get_or s (at + i) 0)) n 0
