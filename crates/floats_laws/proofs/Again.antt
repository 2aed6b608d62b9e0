-- What is held to a range, or wrapped into one, and held or wrapped again stays as it is.
use mathlib.Core.Path.{◌≡◌, refl, sym, ap, ◌∙◌}
use mathlib.Core.Bool.{Bool, true, false, cond}
use lib.Dec.{T}
use lib.Ieee.{Float, Format, rem, add, lt, le, fits}
use lib.Ieee.Fits.{rem-fits, add-fits, cond-fits}
use lib.Ieee.Scale.{finite}
use lib.Ieee.Bits.{is_true}
use borrow.Author.Tests.{le-ltb}
use Rattle.sequences.specs.Pick.{by-case}
use Rattle.floats.specs.Choose.{clamp, abs}
use Rattle.floats.specs.Remainder.{rem_euclid}
use Rattle.floats_laws.proofs.Keys.{key, lt_key}
use Rattle.floats_laws.proofs.Rules.{le_left, le_right, le→key}
use Rattle.floats_laws.proofs.Rising.{nought}
use Rattle.floats_laws.proofs.Units.{zero_fits}
use Rattle.floats.proofs.Remainders.{rem_inside}

-- ---- held from a to b, where b is not below a and both are numbers
module _ (x a b : Float) (u : lt a a ≡ false) (v : lt b a ≡ false) (w : lt b b ≡ false) where
  inside : (y : Float) → lt y a ≡ false → lt b y ≡ false → clamp y a b ≡ y
  unfolding clamp
  inside y p q = rw (p, q) refl

  under : lt x a ≡ true → clamp x a b ≡ a
  unfolding clamp
  under p = rw (p, v) refl

  over : lt x a ≡ false → lt b x ≡ true → clamp x a b ≡ b
  unfolding clamp
  over p q = rw (p, q) refl

  same : (y : Float) → clamp x a b ≡ y → clamp y a b ≡ y → clamp (clamp x a b) a b ≡ clamp x a b
  same y p q = ap (λ (z : Float). clamp z a b) p ∙ q ∙ sym p

  pub clamp_again : clamp (clamp x a b) a b ≡ clamp x a b
  clamp_again =
      by-case (lt x a) (λ p. same a (under p) (inside a u v))
      (λ p. by-case (lt b x) (λ q. same b (over p q) (inside b v w)) (λ q. same x (inside x p q) (inside x p q)))

pub clamp-finite : (x a b : Float) → T (finite x) → T (finite a) → T (finite b) → T (finite (clamp x a b))
unfolding clamp
clamp-finite x a b p q r = one_of (lt b (cond (lt x a) a x)) b (cond (lt x a) a x) r (one_of (lt x a) a x q p)
  where
    one_of : (t : Bool) (y z : Float) → T (finite y) → T (finite z) → T (finite (cond t y z))
    one_of true y z h g = h
    one_of false y z h g = g

-- ---- wrapped
pub euclid_fits : (f : Format) (x m : Float) → T (fits f x) → T (fits f (rem_euclid f x m))
unfolding rem_euclid
euclid_fits f x m p = cond-fits f (lt (rem f x m) nought) (add f (rem f x m) (abs m)) (rem f x m) (add-fits f (rem f x m) (abs m)) (rem-fits f x m p)

-- a number from 0 up to below m is its own remainder; minus zero too
pub euclid_again : (f : Format) (x m : Float) → T (fits f x) → T (le nought x) → T (lt x m) → rem_euclid f x m ≡ x
unfolding rem_euclid
euclid_again f x m p h g = rw (sym (rem_inside f x m p (is_true (le nought x) h) (is_true (lt x m) g)), not_below) refl
  where
    not_below : lt x nought ≡ false
    not_below = lt_key f x nought p (zero_fits f false) (le_right nought x h) (le_left nought x h) ∙ le-ltb (key f x) (key f nought) (le→key f nought x (zero_fits f false) p h)
