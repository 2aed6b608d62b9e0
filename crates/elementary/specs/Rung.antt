-- The two parts of a finite f32 above zero with the pattern b: it is digits_of b * 2^(rung_of b - 172). Definitions only.
-- The digits lie from 2^23 to below 2^24, for a subnormal number too, and the rung from 0 to 276: 2^(rung - 149) is the leading digit.
use Rattle.std.specs.Prelude.{ℕ, ◌+◌, ◌-◌, ◌*◌, ◌/◌, ◌%◌, ◌^◌, cond, leb}
use Rattle.std.specs.Int.Count.{count_leading_zeros}

unfoldable pub rung_of : ℕ → ℕ
rung_of b = cond (leb 8388608 b) (b / 8388608 + 22) (31 - count_leading_zeros 32 b)

unfoldable pub digits_of : ℕ → ℕ
digits_of b = cond (leb 8388608 b) (b % 8388608 + 8388608) (b * 2 ^ (count_leading_zeros 32 b - 8))
