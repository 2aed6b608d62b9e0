-- The rules of order for a caller, over the format and over all floats; and what is finite, or no NaN.
use Prim.Native.Nat.{◌*◌, ◌≤◌}
use native.Mathlib.Omega.{arith}
use mathlib.Core.Path.{◌≡◌, sym, ◌∙◌, subst}
use mathlib.Core.Bool.{Bool, true, false, not, ◌||◌}
use borrow.Author.Tests.{ltb-false}
use lib.Dec.{T, leb→le, le→leb}
use lib.Ieee.{Float, nan, inf, fin, Format, up, down, add, neg, lt, le, eq, fits, is_nan}
use lib.Ieee.Scale.{finite}
use Rattle.floats.proofs.Rounded.{sum_number}
use Rattle.floats_laws.proofs.Keys.{key, le_key, lt_key}

-- what is compared with success is no NaN
pub le_left : (x y : Float) → T (le x y) → T (not (is_nan x))
unfolding le lt eq is_nan
le_left nan y h = absurd h
le_left (inf s) y h = tt
le_left (fin s m e) y h = tt

pub le_right : (x y : Float) → T (le x y) → T (not (is_nan y))
unfolding le lt eq is_nan
le_right nan nan h = absurd h
le_right (inf s) nan h = absurd h
le_right (fin s m e) nan h = absurd h
le_right x (inf s) h = tt
le_right x (fin s m e) h = tt

pub lt→le : (x y : Float) → lt x y ≡ true → T (le x y)
unfolding le
lt→le x y h = subst (λ (b : Bool). T (b || eq x y)) (sym h) tt

module _ (f : Format) where
  pub le→key : (x y : Float) → T (fits f x) → T (fits f y) → T (le x y) → key f x ≤ key f y
  le→key x y p q h = leb→le (key f x) (key f y) (subst T (le_key f x y p q (le_left x y h) (le_right x y h)) h)

  pub key→le : (x y : Float) → T (fits f x) → T (fits f y) → T (not (is_nan x)) → T (not (is_nan y)) → key f x ≤ key f y → T (le x y)
  key→le x y p q u v h = subst T (sym (le_key f x y p q u v)) (le→leb (key f x) (key f y) h)

  pub le_trans : (x y z : Float) → T (fits f x) → T (fits f y) → T (fits f z) → T (le x y) → T (le y z) → T (le x z)
  le_trans x y z p q r h k =
      let a = le→key x y p q h in
      let b = le→key y z q r k in
      key→le x z p r (le_left x y h) (le_right y z k) (omega arith)

  -- a test that failed says the other order, where neither is a NaN
  pub not_lt→le : (x y : Float) → T (fits f x) → T (fits f y) → T (not (is_nan x)) → T (not (is_nan y)) → lt x y ≡ false → T (le y x)
  not_lt→le x y p q u v h = key→le y x q p v u (ltb-false (key f x) (key f y) (sym (lt_key f x y p q u v) ∙ h))

  pub finite_number : (x : Float) → T (finite x) → T (not (is_nan x))
  unfolding is_nan
  finite_number nan h = h
  finite_number (inf s) h = tt
  finite_number (fin s m e) h = tt

  pub add_number : (x y : Float) → T (not (is_nan x)) → T (finite y) → T (not (is_nan (add f x y)))
  unfolding add is_nan
  add_number nan y u v = absurd u
  add_number (inf s) nan u v = absurd v
  add_number (inf s) (inf t) u v = absurd v
  add_number (inf s) (fin t n d) u v = tt
  add_number (fin s m e) nan u v = absurd v
  add_number (fin s m e) (inf t) u v = absurd v
  add_number (fin s m e) (fin t n d) u v = sum_number f s (m * up e * down d) t (n * up d * down e) (down e * down d)

  pub neg_finite : (x : Float) → T (finite x) → T (finite (neg x))
  unfolding neg
  neg_finite nan h = h
  neg_finite (inf s) h = h
  neg_finite (fin s m e) h = tt

  -- what lies between two finite numbers is one
  pub between-finite : (lo x hi : Float) → T (finite lo) → T (finite hi) → T (le lo x) → T (le x hi) → T (finite x)
  unfolding le lt eq
  between-finite nan x hi u v h k = absurd u
  between-finite (inf s) x hi u v h k = absurd u
  between-finite (fin s m e) nan hi u v h k = absurd h
  between-finite (fin s m e) (inf true) hi u v h k = absurd h
  between-finite (fin s m e) (inf false) nan u v h k = absurd v
  between-finite (fin s m e) (inf false) (inf t) u v h k = absurd v
  between-finite (fin s m e) (inf false) (fin t n d) u v h k = absurd k
  between-finite (fin s m e) (fin t n d) hi u v h k = tt
