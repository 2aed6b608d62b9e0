-- Over the format: which operations give a number and no NaN, and what a test or the sign says of a number.
use Prim.Native.Nat.{zero, suc, ◌*◌}
use native.Mathlib.Nat.{mul-pos, zero-mul}
use native.Mathlib.Omega.{arith}
use mathlib.Core.Path.{◌≡◌, refl, ◌∙◌}
use mathlib.Core.Bool.{true, false, not, false≢true}
use lib.Dec.{T, ltb→lt, lt→ltb, eqb-suc-zero}
use lib.Ieee.{Float, nan, inf, fin, Format, up, down, sum, add, sub, neg, mul, div, unlike, lt, eq, is_nan}
use lib.Ieee.Bits.{is_true}
use lib.Ieee.Fits.{up_pos}
use lib.Ieee.Scale.{finite}
use lib.Ieee.Positive.{positive}
use Rattle.floats.proofs.Facts.{eq_self}
use Rattle.floats.proofs.Rounded.{round_number, sum_number}
use Rattle.floats_laws.proofs.Rising.{nought}

-- ---- a test `<` that passed
pub lt_left-number : (x y : Float) → lt x y ≡ true → is_nan x ≡ false
unfolding lt is_nan
lt_left-number nan y h = absurd (false≢true h)
lt_left-number (inf s) y h = refl
lt_left-number (fin s m e) y h = refl

pub inside-finite : (a x b : Float) → T (finite a) → T (finite b) → lt a x ≡ true → lt x b ≡ true → T (finite x)
unfolding lt
inside-finite nan x b u v h k = absurd u
inside-finite (inf s) x b u v h k = absurd u
inside-finite (fin s m e) nan b u v h k = absurd (false≢true h)
inside-finite (fin s m e) (inf true) b u v h k = absurd (false≢true h)
inside-finite (fin s m e) (inf false) nan u v h k = absurd v
inside-finite (fin s m e) (inf false) (inf t) u v h k = absurd v
inside-finite (fin s m e) (inf false) (fin t n d) u v h k = absurd (false≢true k)
inside-finite (fin s m e) (fin t n d) b u v h k = tt

-- ---- a positive number, by tests
pub positive_lt : (x : Float) → T (positive x) → T (lt nought x)
unfolding lt
positive_lt nan p = absurd p
positive_lt (inf s) p = absurd p
positive_lt (fin true m e) p = absurd p
positive_lt (fin false m e) p = lt→ltb (0 * 1 * down e) (m * up e * 1) (let h = mul-pos (ltb→lt 0 m p) (up_pos e) in omega (arith, zero-mul (down e)))

module _ (f : Format) where
  pub mul_number : (x y : Float) → T (finite x) → T (finite y) → T (not (is_nan (mul f x y)))
  unfolding mul
  mul_number nan y u v = absurd u
  mul_number (inf s) y u v = absurd u
  mul_number (fin s m e) nan u v = absurd v
  mul_number (fin s m e) (inf t) u v = absurd v
  mul_number (fin s m e) (fin t n d) u v = round_number f (unlike s t) (m * up e * (n * up d)) (down e * down d)

  pub div_number : (x y : Float) → T (finite x) → T (positive y) → T (not (is_nan (div f x y)))
  unfolding div
  div_number nan y u v = absurd u
  div_number (inf s) y u v = absurd u
  div_number (fin s m e) nan u v = absurd v
  div_number (fin s m e) (inf t) u v = absurd v
  div_number (fin s m e) (fin true n d) u v = absurd v
  div_number (fin s m e) (fin false zero d) u v = absurd v
  div_number (fin s m e) (fin false (suc n) d) u v = rw (eqb-suc-zero n) (round_number f (unlike s false) (m * up e * down d) (suc n * up d * down e))

-- ---- only a finite number's difference from itself is a number
pub self_apart : (f : Format) (x : Float) → eq (sub f x x) (sub f x x) ≡ finite x
unfolding sub add neg is_nan
self_apart f nan = eq_self nan
self_apart f (inf true) = eq_self nan
self_apart f (inf false) = eq_self nan
self_apart f (fin s m e) = eq_self (sum f s (m * up e * down e) (not s) (m * up e * down e) (down e * down e)) ∙ is_true _ (sum_number f s (m * up e * down e) (not s) (m * up e * down e) (down e * down e))
