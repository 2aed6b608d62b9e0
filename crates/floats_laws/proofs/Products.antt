-- Products over the format: they commute, and that of two finite numbers from 0 on is not negative and rises with either; of one to 0 and one from 0 it is not positive.
use Prim.Native.Nat.{ℕ, ◌*◌}
use native.Mathlib.Nat.{mul_comm, zero-mul, mul-pos}
use native.Mathlib.Omega.{arith}
use mathlib.Core.Path.{◌≡◌, refl, ap, ◌∙◌, subst}
use mathlib.Core.Bool.{Bool, true, false}
use lib.IntN.{ℤ}
use lib.Dec.{T}
use lib.Ieee.{Float, nan, inf, fin, Format, up, down, unlike, round, mul, le, is_nan, fits}
use lib.Ieee.Fits.{down_pos, mul-fits}
use lib.Ieee.Scale.{finite}
use Rattle.floats_laws.proofs.Keys.{key, over, side}
use Rattle.floats_laws.proofs.Mono.{round_side, rounded-size_zero}
use Rattle.floats_laws.proofs.Rules.{key→le, le_trans}
use Rattle.floats_laws.proofs.Numbers.{mul_number}
use Rattle.floats_laws.proofs.Rising.{nought, mul_rises}

alike : (s t : Bool) → unlike s t ≡ unlike t s
alike true true = refl
alike true false = refl
alike false true = refl
alike false false = refl

module _ (f : Format) where
  pub mul_commutes : (x y : Float) → mul f x y ≡ mul f y x
  unfolding mul
  mul_commutes nan nan = refl
  mul_commutes nan (inf t) = refl
  mul_commutes nan (fin t n d) = refl
  mul_commutes (inf s) nan = refl
  mul_commutes (inf s) (inf t) = ap inf (alike s t)
  mul_commutes (inf s) (fin t n d) = rw (alike s t)
  mul_commutes (fin s m e) nan = refl
  mul_commutes (fin s m e) (inf t) = rw (alike s t)
  mul_commutes (fin s m e) (fin t n d) = rw (alike s t, mul_comm (m * up e) (n * up d), mul_comm (down e) (down d))

  -- nothing times a number is a zero, of either sign
  zero_key : (t : Bool) (n : ℕ) (d : ℤ) → key f (mul f nought (fin t n d)) ≡ over f
  unfolding mul
  zero_key t n d =
      ap (λ (a : ℕ). key f (round f (unlike false t) a (1 * down d))) (zero-mul (n * up d))
      ∙ round_side f (unlike false t) 0 (1 * down d)
      ∙ ap (side (over f) (unlike false t)) (rounded-size_zero f (1 * down d) (mul-pos (omega arith) (down_pos d)))
      ∙ middle (unlike false t) (over f)
    where
      middle : (s : Bool) (o : ℕ) → side o s 0 ≡ o
      middle true o = omega arith
      middle false o = omega arith

  nothing-times : (x : Float) → T (finite x) → T (le nought (mul f nought x))
  unfolding fits is_nan
  nothing-times nan h = absurd h
  nothing-times (inf t) h = absurd h
  nothing-times (fin t n d) h = key→le f nought (mul f nought (fin t n d)) tt (mul-fits f nought (fin t n d)) tt (mul_number f nought (fin t n d) tt tt) (omega (arith, zero_key t n d))

  times-nothing : (x : Float) → T (finite x) → T (le (mul f nought x) nought)
  unfolding fits is_nan
  times-nothing nan h = absurd h
  times-nothing (inf t) h = absurd h
  times-nothing (fin t n d) h = key→le f (mul f nought (fin t n d)) nought (mul-fits f nought (fin t n d)) tt (mul_number f nought (fin t n d) tt tt) tt (omega (arith, zero_key t n d))

  module _ (x y : Float) (u : T (finite x)) (v : T (finite y)) where
    pub product-from_zero : T (le nought x) → T (le nought y) → T (le nought (mul f x y))
    unfolding fits
    product-from_zero h g =
        le_trans f nought (mul f nought y) (mul f x y) tt (mul-fits f nought y) (mul-fits f x y) (nothing-times y v)
        (mul_rises f nought x y v g h (mul_number f nought y tt v) (mul_number f x y u v))

    pub product-to_zero : T (le x nought) → T (le nought y) → T (le (mul f x y) nought)
    unfolding fits
    product-to_zero h g =
        le_trans f (mul f x y) (mul f nought y) nought (mul-fits f x y) (mul-fits f nought y) tt
        (mul_rises f x nought y v g h (mul_number f x y u v) (mul_number f nought y tt v)) (times-nothing y v)

    -- it rises with the second
    pub mul_rises-right : (z : Float) → T (finite z) → T (le nought z) → T (le x y) → T (le (mul f z x) (mul f z y))
    mul_rises-right z w g h =
        subst (λ (r : Float). T (le r (mul f z y))) (mul_commutes x z)
        (subst (λ (r : Float). T (le (mul f x z) r)) (mul_commutes y z) (mul_rises f x y z w g h (mul_number f x z u w) (mul_number f y z v w)))
