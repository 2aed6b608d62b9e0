-- THE CLAIM: 2^x, e^x, 8^x and 10^x at binary32 never fall as x rises, the infinities included. One law over the base's logarithm.
use mathlib.Core.Path.{◌≡◌, refl, subst}
use mathlib.Core.Logic.{inl, inr}
use mathlib.Core.Bool.{true}
use Prim.Native.Nat.{ℕ, zero-le, ◌/◌, ◌%◌, ◌≤◌, ◌<◌}
use native.Mathlib.Nat.{eq-or-lt_of_le, le_of_lt}
use native.Mathlib.Omega.{arith}
use lib.Count.{count_trailing_zeros}
use lib.IntN.{pos}
use lib.Dec.{T, ltb→lt}
use lib.Ieee.{Float, fin, binary32, binary64, add, mul, sum, round, size, span, climb, units, odd, lt, le, is_nan, of_bits, of_fields, to_bits}
use denote.Floats.{is_true}
use lib.Ieee.Positive.{positive-finite, positive, between}
use lib.Ieee.Scale.{finite}
use Rattle.floats_laws.proofs.Numbers.{inside-finite, mul_number, positive_lt}
use Rattle.floats_laws.proofs.PatternOrder.{patterns_rise}
use Rattle.floats_laws.proofs.Rules.{add_number, finite_number, between-finite, lt→le}
use Rattle.floats_laws.proofs.Rising.{add_rises, mul_rises, nought}
use Rattle.floats_laws.proofs.ToBits.{to_bits_mono}
use Rattle.floats_laws.proofs.Units.{one}
use Rattle.powers.specs.Placed.{edged, placed, placed32}
use Rattle.powers.specs.PowerCells.{power_starts, power_slopes, power_bends, power_start, power_slope, power_bend}
use Rattle.powers.specs.Power.{lifted, mantissa, power_bits, power, exp2, exp, pow8, pow10}
use Rattle.powers.proofs.Edges.{upper_edge, lower_edge, Inside, edged-rises}
use Rattle.powers.proofs.PlacedRises.{placed_climbs, placed-rises, placed-under}
use Rattle.powers.proofs.PowerLike.{PowerLike}
use Rattle.powers.proofs.PowerTable.{mantissa-rises, mantissa-low, mantissa-high}

-- ---- patterns: from the bits of z to those of the answer
module _ (v w : ℕ) where
  upper_rises : v ≤ w → v / 4294967296 ≤ w / 4294967296
  upper_rises h = omega arith

  lower_rises : v ≤ w → v / 4294967296 ≡ w / 4294967296 → v % 4294967296 ≤ w % 4294967296
  lower_rises h e = omega arith

lower : (w : ℕ) → w % 4294967296 < 4294967296
lower w = omega arith

pub power_bits-rises : (v w : ℕ) → v ≤ w → power_bits v ≤ power_bits w
unfolding power_bits
power_bits-rises v w h =
    elim (eq-or-lt_of_le (upper_rises v w h)) [
      | inl e ↦
          subst (λ (n : ℕ). placed32 (v / 4294967296) (mantissa (v % 4294967296)) ≤ placed32 n (mantissa (w % 4294967296))) e
          (placed-rises 8388608 274877906944 2139095040 0x41380001 (ltb→lt 0 274877906944 tt) (v / 4294967296) (mantissa-rises (lower_rises v w h e) (lower w)))
      | inr l ↦
          placed_climbs 8388608 274877906944 2139095040 0x41380001 (ltb→lt 0 274877906944 tt) (v / 4294967296) (mantissa (v % 4294967296)) (w / 4294967296) (mantissa (w % 4294967296)) (le_of_lt (mantissa-high (v % 4294967296) (lower v)))
          (mantissa-low (w % 4294967296) (lower w)) l
    ]

pub power_bits-under : (w : ℕ) → power_bits w ≤ 2139095040
unfolding power_bits
power_bits-under w = placed-under 8388608 274877906944 2139095040 0x41380001 (w / 4294967296) (mantissa (w % 4294967296))

-- ---- what is computed of a base's logarithm to base 2
pub record Base (c : Float) : Type 0 where
  pub above_zero : T (positive c)
  pub lowest : T (finite (mul binary64 lower_edge c)) × T (positive (lifted c lower_edge))
  pub highest : T (finite (mul binary64 upper_edge c)) × T (positive (lifted c upper_edge))
  pub at_zero : power c nought ≡ one
  pub at_minus_zero : power c (fin true 0 (pos 0)) ≡ one

-- ---- from x to z
module _ (c : Float) (B : Base c) where
  times-rises : (x y : Float) → T (finite x) → T (finite y) → T (le x y) → T (le (mul binary64 x c) (mul binary64 y c))
  times-rises x y u v h =
      let p = positive-finite c B.above_zero in
      mul_rises binary64 x y c p (lt→le nought c (is_true _ (positive_lt c B.above_zero))) h (mul_number binary64 x c u p) (mul_number binary64 y c v p)

  module _ (x : Float) (i : Inside x) where
    inside : T (finite x)
    inside = inside-finite lower_edge x upper_edge tt tt i.1 i.0

    from_lower_edge : T (le (mul binary64 lower_edge c) (mul binary64 x c))
    from_lower_edge = times-rises lower_edge x tt inside (lt→le lower_edge x i.1)

    to_upper_edge : T (le (mul binary64 x c) (mul binary64 upper_edge c))
    to_upper_edge = times-rises x upper_edge inside tt (lt→le x upper_edge i.0)

    product-finite : T (finite (mul binary64 x c))
    product-finite = between-finite binary64 (mul binary64 lower_edge c) (mul binary64 x c) (mul binary64 upper_edge c) B.lowest.0 B.highest.0 from_lower_edge to_upper_edge

  lift-rises : (a b : Float) → T (finite a) → T (finite b) → T (le a b) → T (le (add binary64 a (of_bits binary64 0x4138007f00000000)) (add binary64 b (of_bits binary64 0x4138007f00000000)))
  unfolding of_bits of_fields odd
  lift-rises a b u v h = add_rises binary64 a b (of_bits binary64 0x4138007f00000000) h (add_number binary64 a (of_bits binary64 0x4138007f00000000) (finite_number binary64 a u) tt) (add_number binary64 b (of_bits binary64 0x4138007f00000000) (finite_number binary64 b v) tt)

  pub lifted-rises : (x y : Float) → Inside x → Inside y → T (le x y) → T (le (lifted c x) (lifted c y))
  unfolding lifted
  lifted-rises x y i j h = lift-rises (mul binary64 x c) (mul binary64 y c) (product-finite x i) (product-finite y j) (times-rises x y (inside x i) (inside y j) h)

  lifted-from : (x : Float) → Inside x → T (le (lifted c lower_edge) (lifted c x))
  unfolding lifted
  lifted-from x i = lift-rises (mul binary64 lower_edge c) (mul binary64 x c) B.lowest.0 (product-finite x i) (from_lower_edge x i)

  lifted-to : (x : Float) → Inside x → T (le (lifted c x) (lifted c upper_edge))
  unfolding lifted
  lifted-to x i = lift-rises (mul binary64 x c) (mul binary64 upper_edge c) (product-finite x i) B.highest.0 (to_upper_edge x i)

  lifted-positive : (x : Float) → Inside x → T (positive (lifted c x))
  lifted-positive x i = between (lifted c lower_edge) (lifted c x) (lifted c upper_edge) B.lowest.1 B.highest.1 (lifted-from x i) (lifted-to x i)

  within-rises : (x y : Float) → Inside x → Inside y → T (le x y) → T (le (of_bits binary32 (power_bits (to_bits binary64 (lifted c x)))) (of_bits binary32 (power_bits (to_bits binary64 (lifted c y)))))
  within-rises x y i j h =
      let v = to_bits binary64 (lifted c x) in
      let w = to_bits binary64 (lifted c y) in
      patterns_rise binary32 (power_bits v) (power_bits w) (power_bits-rises v w (to_bits_mono binary64 (lifted c x) (lifted c y) (lifted-positive x i) (lifted-positive y j) (lifted-rises x y i j h))) (power_bits-under w)

  zero_pattern : of_bits binary32 0 ≡ nought
  unfolding of_bits of_fields odd
  zero_pattern = refl

  within-positive : (x : Float) → Inside x → T (le nought (of_bits binary32 (power_bits (to_bits binary64 (lifted c x)))))
  within-positive x i =
      let w = to_bits binary64 (lifted c x) in
      subst (λ (z : Float). T (le z (of_bits binary32 (power_bits w)))) zero_pattern (patterns_rise binary32 0 (power_bits w) zero-le (power_bits-under w))

  pub power-rises : (x y : Float) → T (le x y) → T (le (power c x) (power c y))
  unfolding power
  power-rises = edged-rises (λ (x : Float). of_bits binary32 (power_bits (to_bits binary64 (lifted c x)))) within-rises within-positive

  pub power_like : PowerLike (power c)
  unfolding power edged lt is_nan
  power_like =
      record {
        at_nan = refl;
        at_minus_infinity = refl;
        at_infinity = refl;
        at_zero = B.at_zero;
        at_minus_zero = B.at_minus_zero;
        never_falls = power-rises;
      }

-- ---- the four bases
base2 : Base (of_bits binary64 0x3ff0000000000000)
unfolding power edged lifted power_bits placed mantissa power_start power_slope power_bend power_starts power_slopes power_bends add mul sum round size span climb units odd of_bits of_fields to_bits lt is_nan count_trailing_zeros
base2 = record { above_zero = tt; lowest = (tt, tt); highest = (tt, tt); at_zero = refl; at_minus_zero = refl }

base_e : Base (of_bits binary64 0x3ff71547652b82fe)
unfolding power edged lifted power_bits placed mantissa power_start power_slope power_bend power_starts power_slopes power_bends add mul sum round size span climb units odd of_bits of_fields to_bits lt is_nan count_trailing_zeros
base_e = record { above_zero = tt; lowest = (tt, tt); highest = (tt, tt); at_zero = refl; at_minus_zero = refl }

base8 : Base (of_bits binary64 0x4008000000000000)
unfolding power edged lifted power_bits placed mantissa power_start power_slope power_bend power_starts power_slopes power_bends add mul sum round size span climb units odd of_bits of_fields to_bits lt is_nan count_trailing_zeros
base8 = record { above_zero = tt; lowest = (tt, tt); highest = (tt, tt); at_zero = refl; at_minus_zero = refl }

base10 : Base (of_bits binary64 0x400a934f0979a371)
unfolding power edged lifted power_bits placed mantissa power_start power_slope power_bend power_starts power_slopes power_bends add mul sum round size span climb units odd of_bits of_fields to_bits lt is_nan count_trailing_zeros
base10 = record { above_zero = tt; lowest = (tt, tt); highest = (tt, tt); at_zero = refl; at_minus_zero = refl }

pub exp2_like : PowerLike exp2
unfolding exp2
exp2_like = power_like (of_bits binary64 0x3ff0000000000000) base2

pub exp_like : PowerLike exp
unfolding exp
exp_like = power_like (of_bits binary64 0x3ff71547652b82fe) base_e

pub pow8_like : PowerLike pow8
unfolding pow8
pow8_like = power_like (of_bits binary64 0x4008000000000000) base8

pub pow10_like : PowerLike pow10
unfolding pow10
pow10_like = power_like (of_bits binary64 0x400a934f0979a371) base10
