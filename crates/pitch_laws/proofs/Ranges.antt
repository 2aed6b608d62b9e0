-- Where register height, strength and probability lie: 0 to 1, 0.1 to 1, 0.15 to 1, for every logarithm that is no NaN, infinities too. A NaN gives NaN.
use mathlib.Core.Path.{◌≡◌, refl, subst}
use mathlib.Core.Bool.{not}
use lib.Dec.{T}
use lib.Ieee.{Float, nan, inf, fin, binary32, fits, is_nan, lt, le, eq, add, sub, neg, mul, div, sum, round, size, span, climb, units, odd, of_bits, of_fields}
use lib.Ieee.Bits.{of_bits-fits}
use lib.Ieee.Fits.{mul-fits, div-fits}
use lib.Ieee.Scale.{finite}
use lib.Count.{count_leading_zeros, count_trailing_zeros}
use Rattle.floats.specs.Names.{f32, add32, sub32, mul32, div32, zero32, one}
use Rattle.floats.specs.Choose.{clamp}
use Rattle.floats_laws.proofs.Choosing.{clamp-least, clamp_most}
use Rattle.floats_laws.proofs.Numbers.{mul_number, div_number}
use Rattle.floats_laws.proofs.Rising.{nought, add_rises-right, mul_rises}
use Rattle.floats_laws.proofs.Rules.{add_number, between-finite, finite_number, le_trans}
use Rattle.pitch.proofs.Logs.{log_of_min, log_of_range}
use Rattle.floats_laws.proofs.Products.{product-from_zero, mul_rises-right}
use Rattle.pitch.specs.Register.{low_opening, low_probability, height_of, register_strength, probability_of}

-- what is between two floats, ends included
abbrev pub Between : Float → Float → Float → Type 0
Between a x b = T (le a x) × T (le x b)

-- ---- the height
over_range : (x : Float) → T (not (is_nan x)) → T (not (is_nan (div32 x (f32 0x408eb3aa))))
unfolding div of_bits of_fields odd is_nan
over_range nan h = absurd h
over_range (inf s) h = tt
over_range (fin s m e) h = div_number binary32 (fin s m e) (f32 0x408eb3aa) tt tt

abbrev placed : Float → Float
placed l = div32 (sub32 l (f32 0x408a4d3c)) (f32 0x408eb3aa)

placed-number : (l : Float) → T (not (is_nan l)) → T (not (is_nan (placed l)))
unfolding sub neg of_bits of_fields odd
placed-number l h = over_range (sub32 l (f32 0x408a4d3c)) (add_number binary32 l (neg (f32 0x408a4d3c)) h tt)

unit : T (le zero32 one)
unfolding le lt eq of_bits of_fields odd
unit = tt

height_is : (l : Float) → height_of l ≡ clamp (placed l) zero32 one
unfolding height_of
height_is l = rw (log_of_min, log_of_range)

pub height_in : (l : Float) → T (not (is_nan l)) → Between zero32 (height_of l) one
height_in l h =
    let p = div-fits binary32 (sub32 l (f32 0x408a4d3c)) (f32 0x408eb3aa) in
    let q = of_bits-fits binary32 0 in
    let r = of_bits-fits binary32 0x3f800000 in
    let n = placed-number l h in
    rw (height_is l) (clamp-least binary32 (placed l) zero32 one p q r n unit, clamp_most binary32 (placed l) zero32 one p q r n unit)

pub height_finite : (l : Float) → T (not (is_nan l)) → T (finite (height_of l))
unfolding of_bits of_fields odd
height_finite l h = let b = height_in l h in between-finite binary32 zero32 (height_of l) one tt tt b.0 b.1

pub height_of_nan : height_of nan ≡ nan
unfolding sub add neg div clamp lt of_bits of_fields odd
height_of_nan = height_is nan

-- ---- a low value, and as much of the rest, 1 - low, as a share from 0 to 1 says
record Parted (low rest : Float) : Type 0 where
  low_finite : T (finite low)
  rest_finite : T (finite rest)
  not_negative : T (le nought rest)
  start : add32 low nought ≡ low
  end : add32 low rest ≡ one
  whole : mul32 rest one ≡ rest

module _ (low rest : Float) (c : Parted low rest) (q : T (fits binary32 rest)) where
  abbrev u : T (finite low)
  u = c.low_finite

  abbrev v : T (finite rest)
  v = c.rest_finite

  lifted : (x : Float) → T (finite x) → T (le nought x) → T (le x rest) → Between low (add32 low x) one
  lifted x w h k =
      let n = add_number binary32 low x (finite_number binary32 low u) w in (
        subst (λ (y : Float). T (le y (add32 low x))) c.start (add_rises-right binary32 low nought x h (add_number binary32 low nought (finite_number binary32 low u) tt) n),
        subst (λ (y : Float). T (le (add32 low x) y)) c.end (add_rises-right binary32 low x rest k n (add_number binary32 low rest (finite_number binary32 low u) v)),
      )

  module _ (h : Float) (w : T (finite h)) (a : T (le nought h)) (b : T (le h one)) where
    share_from : T (le nought (mul32 rest h))
    share_from = product-from_zero binary32 rest h v w c.not_negative a

    share_to : T (le (mul32 rest h) rest)
    unfolding of_bits of_fields odd
    share_to = subst (λ (y : Float). T (le (mul32 rest h) y)) c.whole (mul_rises-right binary32 h one w tt rest v c.not_negative b)

    share_finite : T (finite (mul32 rest h))
    share_finite = between-finite binary32 nought (mul32 rest h) rest tt v share_from share_to

    in_share : Between low (add32 low (mul32 rest h)) one
    in_share = lifted (mul32 rest h) share_finite share_from share_to

    -- the same of the share's square
    square-to : T (le (mul32 (mul32 rest h) h) rest)
    square-to =
        le_trans binary32 (mul32 (mul32 rest h) h) (mul32 rest h) rest (mul-fits binary32 (mul32 rest h) h) (mul-fits binary32 rest h) q
        (mul_rises binary32 (mul32 rest h) rest h w a share_to (mul_number binary32 (mul32 rest h) h share_finite w) (mul_number binary32 rest h v w)) share_to

    square-from : T (le nought (mul32 (mul32 rest h) h))
    square-from = product-from_zero binary32 (mul32 rest h) h share_finite w share_from a

    in_square : Between low (add32 low (mul32 (mul32 rest h) h)) one
    in_square = lifted (mul32 (mul32 rest h) h) (between-finite binary32 nought (mul32 (mul32 rest h) h) rest tt v square-from square-to) square-from square-to

-- ---- strength and probability
rest_of_opening : sub32 one low_opening ≡ f32 0x3f666666
unfolding add sub neg sum round size span climb units odd count_trailing_zeros count_leading_zeros of_bits of_fields
rest_of_opening = refl

opening : Parted low_opening (f32 0x3f666666)
unfolding add sub neg mul sum round size span climb units odd count_trailing_zeros count_leading_zeros of_bits of_fields le lt eq
opening = record { low_finite = tt; rest_finite = tt; not_negative = tt; start = refl; end = refl; whole = refl }

rest_of_chance : sub32 one low_probability ≡ f32 0x3f59999a
unfolding add sub neg sum round size span climb units odd count_trailing_zeros count_leading_zeros of_bits of_fields
rest_of_chance = refl

chance : Parted low_probability (f32 0x3f59999a)
unfolding add sub neg mul sum round size span climb units odd count_trailing_zeros count_leading_zeros of_bits of_fields le lt eq
chance = record { low_finite = tt; rest_finite = tt; not_negative = tt; start = refl; end = refl; whole = refl }

zero_is : zero32 ≡ nought
unfolding of_bits of_fields odd
zero_is = refl

above_nought : (x : Float) → T (le zero32 x) → T (le nought x)
above_nought x h = subst (λ (z : Float). T (le z x)) zero_is h

pub strength_in : (l : Float) → T (not (is_nan l)) → Between low_opening (register_strength l) one
unfolding register_strength
strength_in l h = let b = height_in l h in rw rest_of_opening (in_square low_opening (f32 0x3f666666) opening (of_bits-fits binary32 0x3f666666) (height_of l) (height_finite l h) (above_nought (height_of l) b.0) b.1)

pub probability_in : (l : Float) → T (not (is_nan l)) → Between low_probability (probability_of l) one
unfolding probability_of
probability_in l h = let b = height_in l h in rw rest_of_chance (in_share low_probability (f32 0x3f59999a) chance (of_bits-fits binary32 0x3f59999a) (height_of l) (height_finite l h) (above_nought (height_of l) b.0) b.1)

no_product : (x : Float) → mul32 x nan ≡ nan
unfolding mul
no_product nan = refl
no_product (inf s) = refl
no_product (fin s m e) = refl

no_sum : (x : Float) → add32 x nan ≡ nan
unfolding add
no_sum nan = refl
no_sum (inf s) = refl
no_sum (fin s m e) = refl

pub strength_of_nan : register_strength nan ≡ nan
unfolding register_strength
strength_of_nan = rw (height_of_nan, no_product _, no_sum _)

pub probability_of_nan : probability_of nan ≡ nan
unfolding probability_of
probability_of_nan = rw (height_of_nan, no_product _, no_sum _)
