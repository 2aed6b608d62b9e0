-- What lies between two numbers is no larger than they are; what both have, the smaller has; what is at most another is not above it, so of two numbers in order the larger and the
-- smaller are known; and what is not at most another is above it.
use Prim.Native.Nat.{ℕ}
use native.Mathlib.Omega.{arith}
use mathlib.Core.Path.{◌≡◌, sym, ◌∙◌, subst}
use mathlib.Core.Bool.{true, false, not}
use borrow.Author.Tests.{le-ltb, lt-ltb, leb-false}
use lib.IntN.{ℤ}
use lib.Dec.{T}
use lib.Ieee.{Float, nan, inf, fin, Format, neg, lt, le, fits, is_nan}
use lib.Ieee.Bits.{is_true, is_false}
use Rattle.sequences.specs.Pick.{by-case}
use Rattle.floats.specs.Choose.{max, min}
use Rattle.floats_laws.proofs.Keys.{key, lt_key, le_key}
use Rattle.floats_laws.proofs.Mag.{Mag, Upto, le_upto}
use Rattle.floats_laws.proofs.Rising.{nought, neg_falls, past-lowest, past-highest}
use Rattle.floats_laws.proofs.Rules.{le→key, key→le, le_left, le_right, lt→le}

module _ (P : Float → Type 0) (x y : Float) (p : P x) (q : P y) where
  pub of_min : P (min x y)
  unfolding min
  of_min = by-case (is_nan x) (λ e. rw e q) (λ e. rw e (by-case (lt y x) (λ d. rw d q) (λ d. rw d p)))

pub min-second : (x y : Float) → T (lt y x) → min x y ≡ y
unfolding min
min-second x y h = rw (is_false (is_nan x) (le_right y x (lt→le y x (is_true (lt y x) h))), is_true (lt y x) h)

module _ (f : Format) where
  pub not_above : (x y : Float) → T (fits f x) → T (fits f y) → T (le x y) → lt y x ≡ false
  not_above x y p q h = lt_key f y x q p (le_right x y h) (le_left x y h) ∙ le-ltb (key f y) (key f x) (le→key f x y p q h)

  pub max-first : (x y : Float) → T (fits f x) → T (fits f y) → T (le y x) → max x y ≡ x
  unfolding max
  max-first x y p q h = rw (is_false (is_nan x) (le_right y x h), not_above y x q p h)

  pub min-first : (x y : Float) → T (fits f x) → T (fits f y) → T (le x y) → min x y ≡ x
  unfolding min
  min-first x y p q h = rw (is_false (is_nan x) (le_left x y h), not_above x y p q h)

  pub not_le→lt : (x y : Float) → T (fits f x) → T (fits f y) → T (not (is_nan x)) → T (not (is_nan y)) → le x y ≡ false → lt y x ≡ true
  not_le→lt x y p q u v h = lt_key f y x q p v u ∙ lt-ltb (key f y) (key f x) (leb-false (key f x) (key f y) (sym (le_key f x y p q u v) ∙ h))

  pub from_zero : (m : ℕ) (e : ℤ) → T (fits f (fin false m e)) → T (le nought (fin false m e))
  unfolding is_nan fits
  from_zero m e p = key→le f nought (fin false m e) tt p tt tt (omega arith)

  pub mag_between : (lo hi x : Float) (k : ℕ) → T (fits f lo) → T (fits f x) → T (le lo x) → T (le x hi) → Upto (neg lo) k → Upto hi k → Mag x k
  unfolding neg is_nan fits
  mag_between lo hi nan k p q a b u v = absurd (le_right lo nan a)
  mag_between lo hi (inf true) k p q a b u v = absurd (subst (λ (z : Float). Upto (neg z) k) (past-lowest lo a) u)
  mag_between lo hi (inf false) k p q a b u v = absurd (subst (λ (z : Float). Upto z k) (past-highest hi b) v)
  mag_between lo hi (fin false m e) k p q a b u v = le_upto (fin false m e) hi k (from_zero m e q) b v
  mag_between lo hi (fin true m e) k p q a b u v = le_upto (fin false m e) (neg lo) k (from_zero m e q) (neg_falls f lo (fin true m e) p q a) u
