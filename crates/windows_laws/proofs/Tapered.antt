-- The taper of a number, an infinity too, is finite and lies from 0 to 1; only a NaN's is a NaN.
use Prim.Native.Nat.{suc, ◌+◌, ◌-◌, ◌*◌, ◌^◌, ◌≤◌, ◌<◌}
use native.Mathlib.Nat.{pow-suc}
use native.Mathlib.Omega.{arith}
use mathlib.Core.Path.{◌≡◌, refl, sym, subst}
use mathlib.Core.Bool.{true, false, not, false≢true}
use borrow.Author.Tests.{ltb-true}
use denote.Floats.{passes}
use lib.IntN.{pos, negsuc}
use lib.Dec.{T}
use lib.Ieee.{Float, nan, inf, fin, binary32, of_bits, add, sub, mul, neg, lt, le, eq, fits, is_nan}
use lib.Ieee as Ieee
use lib.Ieee.Bits.{is_false}
use lib.Ieee.Fits.{mul-fits, sub-fits}
use lib.Ieee.Scale.{finite}
use Rattle.floats.specs.Choose.{clamp}
use Rattle.floats_laws.proofs.Bounds.{mul_mag, sub_mag}
use Rattle.floats_laws.proofs.Choosing.{clamp-fits, clamp-least, clamp_most}
use Rattle.floats_laws.proofs.Ends.{not_le→lt}
use Rattle.floats_laws.proofs.Held.{clamp_mag}
use Rattle.floats_laws.proofs.Mag.{Mag, mag_finite}
use Rattle.floats_laws.proofs.Products.{product-from_zero, mul_rises-right}
use Rattle.floats_laws.proofs.Mono.{le→signed}
use Rattle.floats_laws.proofs.Numbers.{mul_number}
use Rattle.floats_laws.proofs.Rising.{nought, sub_falls, mul_rises}
use Rattle.floats_laws.proofs.Rules.{finite_number, le_trans}
use Rattle.floats_laws.proofs.Units.{one as i, zero_fits, one-fits, unit}
use Rattle.floats.proofs.Values.{fine, same_fin}
use Rattle.sequences.specs.Pick.{by-case}
use Rattle.windows_laws.proofs.UpperHalf.{two, three, above_half}
use Rattle.windows.specs.Opening.{cubic, taper_of}

abbrev half : Float
half = fin false 1 (negsuc 0)

abbrev quarter : Float
quarter = fin false 1 (negsuc 1)

quarter_fits : T (fits binary32 quarter)
unfolding fits
quarter_fits = tt

half-fits : T (fits binary32 half)
unfolding fits
half-fits = tt

z_below-half : T (le nought half)
unfolding le lt eq
z_below-half = tt

z_below_quarter : T (le nought quarter)
unfolding le lt eq
z_below_quarter = tt

half_of_half : mul binary32 half half ≡ quarter
unfolding mul Ieee.round Ieee.units Ieee.odd Ieee.size Ieee.span Ieee.climb
half_of_half = refl

three-less-nothing : sub binary32 three nought ≡ three
unfolding sub add neg Ieee.sum Ieee.round Ieee.units Ieee.odd Ieee.size Ieee.span Ieee.climb
three-less-nothing = refl

three_quarters : T (le (mul binary32 quarter three) i)
unfolding le lt eq mul Ieee.round Ieee.units Ieee.odd Ieee.size Ieee.span Ieee.climb
three_quarters = tt

two_fits : T (fits binary32 two)
unfolding fits
two_fits = tt

z_below-two : T (le nought two)
unfolding le lt eq
z_below-two = tt

twice-one : mul binary32 two i ≡ two
unfolding mul Ieee.round Ieee.units Ieee.odd Ieee.size Ieee.span Ieee.climb
twice-one = refl

three-less-two : sub binary32 three two ≡ i
unfolding sub add neg Ieee.sum Ieee.round Ieee.units Ieee.odd Ieee.size Ieee.span Ieee.climb
three-less-two = refl

-- ---- of y from 0 to 1
module _ (y : Float) (p : T (fits binary32 y)) (m : Mag y 1) (least : T (le nought y)) (most : T (le y i)) where
  abbrev square : Float
  square = mul binary32 y y

  abbrev twice : Float
  twice = mul binary32 two y

  abbrev rest : Float
  rest = sub binary32 three twice

  y_finite : T (finite y)
  y_finite = mag_finite y 1 m

  square_mag : Mag square 1
  square_mag = mul_mag binary32 y y 1 1 (omega arith) m m

  twice_mag : Mag twice 2
  twice_mag = mul_mag binary32 two y 2 1 (omega arith) (omega arith) m

  rest_mag : Mag rest 5
  rest_mag = sub_mag binary32 three twice 3 2 (omega arith) (omega arith) twice_mag

  rest-least : T (le i rest)
  rest-least =
      subst (λ (x : Float). T (le x rest)) three-less-two
      (sub_falls binary32 three twice two (mul-fits binary32 two y) two_fits (subst (λ (x : Float). T (le twice x)) twice-one (mul_rises-right binary32 y i y_finite tt two tt z_below-two most))
      (finite_number binary32 rest (mag_finite rest 5 rest_mag)) (finite_number binary32 (sub binary32 three two) (subst (λ (x : Float). T (finite x)) (sym three-less-two) tt)))

  cubic-finite : T (finite (mul binary32 square rest)) × T (le nought (mul binary32 square rest))
  cubic-finite = (
    mag_finite (mul binary32 square rest) 5 (mul_mag binary32 square rest 1 5 (omega arith) square_mag rest_mag),
    product-from_zero binary32 square rest (mag_finite square 1 square_mag) (mag_finite rest 5 rest_mag) (product-from_zero binary32 y y y_finite y_finite least least)
        (le_trans binary32 nought i rest (zero_fits binary32 false) (one-fits binary32) (sub-fits binary32 three twice) unit rest-least),
  )

  -- up to a half
  lower_half : T (le y half) → T (le (mul binary32 square rest) i)
  lower_half k =
      let s-finite = mag_finite square 1 square_mag in
      let r-finite = mag_finite rest 5 rest_mag in
      let r-least = le_trans binary32 nought i rest (zero_fits binary32 false) (one-fits binary32) (sub-fits binary32 three twice) unit rest-least in
      let s-half : T (le square (mul binary32 half y)) = mul_rises binary32 y half y y_finite least k (mul_number binary32 y y y_finite y_finite) (mul_number binary32 half y tt y_finite) in
      let s-quarter : T (le square quarter) =
      le_trans binary32 square (mul binary32 half y) quarter (mul-fits binary32 y y) (mul-fits binary32 half y) quarter_fits s-half
      (subst (λ (x : Float). T (le (mul binary32 half y) x)) half_of_half (mul_rises-right binary32 y half y_finite tt half tt z_below-half k)) in
      let r-three : T (le rest three) =
      subst (λ (x : Float). T (le rest x)) three-less-nothing
      (sub_falls binary32 three nought twice (zero_fits binary32 false) (mul-fits binary32 two y) (product-from_zero binary32 two y tt y_finite z_below-two least) (finite_number binary32 (sub binary32 three nought) (subst (λ (x : Float). T (finite x)) (sym three-less-nothing) tt)) (finite_number binary32 rest r-finite)) in
      le_trans binary32 (mul binary32 square rest) (mul binary32 quarter rest) i (mul-fits binary32 square rest) (mul-fits binary32 quarter rest) (one-fits binary32)
      (mul_rises binary32 square quarter rest r-finite r-least s-quarter (mul_number binary32 square rest s-finite r-finite) (mul_number binary32 quarter rest tt r-finite))
      (le_trans binary32 (mul binary32 quarter rest) (mul binary32 quarter three) i (mul-fits binary32 quarter rest) (mul-fits binary32 quarter three) (one-fits binary32) (mul_rises-right binary32 rest three r-finite tt quarter tt z_below_quarter r-three) three_quarters)

-- from there to 1
abbrev polynomial : Float → Float
polynomial y = mul binary32 (mul binary32 y y) (sub binary32 three (mul binary32 two y))

at_one : T (le (polynomial i) i)
unfolding le lt eq mul sub add neg Ieee.sum Ieee.round Ieee.units Ieee.odd Ieee.size Ieee.span Ieee.climb
at_one = tt

not_finite : T (le (inf false) i) → ⊥
unfolding le lt eq
not_finite h = h

upper_half : (y : Float) → T (fits binary32 y) → T (le y i) → lt half y ≡ true → T (le (polynomial y) i)
unfolding lt
upper_half nan p h k = absurd (false≢true k)
upper_half (inf true) p h k = absurd (false≢true k)
upper_half (inf false) p h k = absurd (not_finite h)
upper_half (fin true m e) p h k = absurd (false≢true k)
upper_half (fin false m (pos j)) p h k = subst (λ (x : Float). T (le (polynomial x) i)) (sym (same_fin binary32 false m (pos j) 1 (pos 0) p (one-fits binary32) is)) at_one
  where
    is : m * 2 ^ j * 1 ≡ 1 * 2 ^ 0 * 1
    is = omega (arith, le→signed false m (pos j) false 1 (pos 0) h, ltb-true (1 * 1 * 1) (m * 2 ^ j * 2 ^ 1) k)
upper_half (fin false m (negsuc j)) p h k = above_half binary32 m j (m - 2 ^ j) (2 ^ j + 2 ^ j - m) (fine binary32 false m (negsuc j) p).few (omega (arith, low, high)) (omega (arith, low)) (omega (arith, low))
  where
    low : 2 ^ j < m
    low = omega (arith, ltb-true (1 * 1 * 2 ^ suc j) (m * 1 * 2 ^ 1) k, pow-suc 2 j)

    high : m ≤ 2 ^ j + 2 ^ j
    high = omega (arith, le→signed false m (negsuc j) false 1 (pos 0) h, pow-suc 2 j)

polynomial_most : (y : Float) → T (fits binary32 y) → Mag y 1 → T (le nought y) → T (le y i) → T (le (polynomial y) i)
polynomial_most y p m a b =
    by-case (le y half) (λ e. lower_half y p m a b (passes _ e))
    (λ e. upper_half y p b (not_le→lt binary32 y half p half-fits (finite_number binary32 y (mag_finite y 1 m)) (finite_number binary32 half tt) e))

pub taper-finite : (x : Float) → T (fits binary32 x) → T (not (is_nan x)) → T (finite (taper_of x)) × T (le nought (taper_of x))
unfolding taper_of cubic of_bits
taper-finite x p u =
    cubic-finite (clamp x nought i) (clamp-fits binary32 x nought i p (zero_fits binary32 false) (one-fits binary32)) (clamp_mag x nought i 1 (is_false (is_nan x) u) (omega arith) (omega arith))
    (clamp-least binary32 x nought i p (zero_fits binary32 false) (one-fits binary32) u unit) (clamp_most binary32 x nought i p (zero_fits binary32 false) (one-fits binary32) u unit)

pub taper_most : (x : Float) → T (fits binary32 x) → T (not (is_nan x)) → T (le (taper_of x) i)
unfolding taper_of cubic of_bits
taper_most x p u =
    polynomial_most (clamp x nought i) (clamp-fits binary32 x nought i p (zero_fits binary32 false) (one-fits binary32)) (clamp_mag x nought i 1 (is_false (is_nan x) u) (omega arith) (omega arith))
    (clamp-least binary32 x nought i p (zero_fits binary32 false) (one-fits binary32) u unit) (clamp_most binary32 x nought i p (zero_fits binary32 false) (one-fits binary32) u unit)

pub taper-number : (x : Float) → T (fits binary32 x) → T (not (is_nan x)) → T (not (is_nan (taper_of x)))
taper-number x p u = finite_number binary32 (taper_of x) (taper-finite x p u).0
