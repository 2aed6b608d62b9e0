-- Values of the powers: 2^x is exact at whole numbers, 10^x stays above 0.00099 from -3 to 0, and a level of 0 dB or less is a gain from 0 to 1.
use mathlib.Core.Path.{◌≡◌, refl, subst, subst⁻¹}
use mathlib.Core.Bool.{Bool, true, false, cond}
use Prim.Native.Nat.{ℕ, ◌<◌}
use lib.Count.{count_trailing_zeros}
use lib.IntN.{pos}
use lib.Dec.{T}
use lib.Ieee.{Float, nan, inf, fin, binary32, binary64, minus, of_int, add, mul, div, sum, round, size, span, climb, units, odd, lt, le, eq, is_nan, fits, of_bits, of_fields, to_bits}
use lib.Ieee.Bits.{of_bits-fits}
use lib.Ieee.Fits.{cond-fits}
use lib.Ieee.Positive.{positive, positive-finite}
use Rattle.floats_laws.proofs.Numbers.{div_number, positive_lt}
use Rattle.floats_laws.proofs.Rising.{div_rises, nought}
use Rattle.floats_laws.proofs.Rules.{le_trans}
use Rattle.sequences.specs.All.{all, all-at}
use Rattle.floats_laws.proofs.Same.{same, same→≡}
use Rattle.floats_laws.proofs.Units.{one}
use Rattle.powers.specs.Placed.{edged, placed}
use Rattle.powers.specs.PowerCells.{power_starts, power_slopes, power_bends, power_start, power_slope, power_bend}
use Rattle.powers.specs.Power.{lifted, mantissa, power_bits, power, exp2, pow10, db_to_gain}
use Rattle.powers.proofs.Edges.{upper_edge, lower_edge}
use Rattle.powers.proofs.PowerLike.{in_unit, at_most_one}
use Rattle.elementary_laws.proofs.PowerRises.{pow10_like}

-- ---- 2^(n - 149), for n from 0 to 276
unfoldable exact_at : ℕ → Bool
exact_at n = same (exp2 (of_int binary32 (minus n 149))) (fin false 1 (minus n 149))

exact-tested : T (all exact_at 277)
unfolding exact_at exp2 power edged lifted power_bits placed mantissa power_start power_slope power_bend power_starts power_slopes power_bends of_int add mul sum round size span climb units odd of_bits of_fields to_bits lt is_nan count_trailing_zeros
exact-tested = tt

pub exp2-exact : (n : ℕ) → n < 277 → exp2 (of_int binary32 (minus n 149)) ≡ fin false 1 (minus n 149)
unfolding exact_at
exp2-exact n h = same→≡ (exp2 (of_int binary32 (minus n 149))) (fin false 1 (minus n 149)) (all-at exact_at 277 exact-tested n h)

-- ---- the answers are f32's
pub power-fits : (c x : Float) → T (fits binary32 (power c x))
unfolding power edged fits
power-fits c x =
    cond-fits binary32 (is_nan x) nan (cond (lt x upper_edge) (cond (lt lower_edge x) (within x) nought) (inf false)) tt
    (cond-fits binary32 (lt x upper_edge) (cond (lt lower_edge x) (within x) nought) (inf false) (cond-fits binary32 (lt lower_edge x) (within x) nought (of_bits-fits binary32 (power_bits (to_bits binary64 (lifted c x)))) tt) tt)
  where
    within : Float → Float
    within x = of_bits binary32 (power_bits (to_bits binary64 (lifted c x)))

pow10-fits : (x : Float) → T (fits binary32 (pow10 x))
unfolding pow10
pow10-fits x = power-fits (of_bits binary64 0x400a934f0979a371) x

-- ---- 10^x for x from -3 to 0: at least the first f32 above 0.00099, at most 1
at-minus-three : T (le (of_bits binary32 0x3a81c2e4) (pow10 (fin true 3 (pos 0))))
unfolding pow10 power edged lifted power_bits placed mantissa power_start power_slope power_bend power_starts power_slopes power_bends add mul sum round size span climb units odd of_bits of_fields to_bits lt le eq is_nan count_trailing_zeros
at-minus-three = tt

pub pow10-from-minus-three : (x : Float) → T (le (fin true 3 (pos 0)) x) → T (le x nought) → T (le (of_bits binary32 0x3a81c2e4) (pow10 x)) × T (le (pow10 x) one)
pow10-from-minus-three x h k = (
  le_trans binary32 (of_bits binary32 0x3a81c2e4) (pow10 (fin true 3 (pos 0))) (pow10 x) (of_bits-fits binary32 0x3a81c2e4) (pow10-fits (fin true 3 (pos 0))) (pow10-fits x) at-minus-three (pow10_like.never_falls (fin true 3 (pos 0)) x h),
  at_most_one pow10_like x k,
)

-- ---- a level at or below 0 dB, minus infinity too
twenty_positive : T (positive (of_bits binary32 0x41a00000))
unfolding of_bits of_fields odd
twenty_positive = tt

nothing_of_twenty : div binary32 nought (of_bits binary32 0x41a00000) ≡ nought
unfolding div round size span climb units odd of_bits of_fields
nothing_of_twenty = refl

of_infinity : div binary32 (inf true) (of_bits binary32 0x41a00000) ≡ inf true
unfolding div of_bits of_fields odd
of_infinity = refl

level-falls : (db : Float) → T (le db nought) → T (le (div binary32 db (of_bits binary32 0x41a00000)) nought)
unfolding le lt eq
level-falls nan h = absurd h
level-falls (inf true) h = subst⁻¹ (λ (z : Float). T (le z nought)) of_infinity tt
level-falls (inf false) h = absurd h
level-falls (fin s m e) h = subst (λ (z : Float). T (le (div binary32 (fin s m e) (of_bits binary32 0x41a00000)) z)) nothing_of_twenty (div_rises binary32 (fin s m e) nought (of_bits binary32 0x41a00000) (positive-finite (of_bits binary32 0x41a00000) twenty_positive) (positive_lt (of_bits binary32 0x41a00000) twenty_positive) h (div_number binary32 (fin s m e) (of_bits binary32 0x41a00000) tt twenty_positive) (div_number binary32 nought (of_bits binary32 0x41a00000) tt twenty_positive))

pub db_to_gain_in_unit : (db : Float) → T (le db nought) → T (le nought (db_to_gain db)) × T (le (db_to_gain db) one)
unfolding db_to_gain
db_to_gain_in_unit db h = in_unit pow10_like (div binary32 db (of_bits binary32 0x41a00000)) (level-falls db h)
