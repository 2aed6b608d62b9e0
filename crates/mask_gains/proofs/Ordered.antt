-- Logs that are not refused are in order from bin 1 on, and finite.
use Prim.Native.Nat.{ℕ, zero, suc, ◌+◌, ◌-◌, ◌≤◌, ◌<◌}
use native.Mathlib.Nat.{add-zero}
use native.Mathlib.Omega.{arith}
use mathlib.Core.Path.{◌≡◌, sym, subst}
use mathlib.Core.Bool.{Bool, true, false, not, ◌&&◌, ◌||◌}
use mathlib.Core.List.{List}
use borrow.Author.Tests.{le-ltb}
use lib.Dec.{T, ltb}
use lib.ListN.{length, get_or}
use lib.Ieee.{Float, nan, binary32, lt, le, fits, is_nan}
use lib.Ieee.Bits.{is_true, is_false}
use lib.Ieee.Fits.{and_l, and_r}
use lib.Ieee.Scale.{finite}
use Rattle.sequences.specs.All.{all-at}
use Rattle.floats_laws.proofs.Rising.{le_refl}
use Rattle.floats_laws.proofs.Rules.{le_trans, not_lt→le, finite_number}
use Rattle.floats_laws.proofs.Through.{le_lt}
use Rattle.mask_gains.specs.Logs.{lawful_at, lawful_logs}
use Rattle.mask_gains.specs.Walk.{Sorted}

or_past : (a b : Bool) → a ≡ false → T (a || b) → T b
or_past true b e t = absurd (subst T e tt)
or_past false b e t = t

module _ (logs : List Float) (fit : (i : ℕ) → T (fits binary32 (get_or logs i nan))) (ok : lawful_logs logs ≡ true) where
  each : (i : ℕ) → i < length logs → T ((ltb i 1 || finite (get_or logs i nan)) && (ltb i 2 || not (lt (get_or logs i nan) (get_or logs (i - 1) nan))))
  unfolding lawful_logs lawful_at
  each i h = all-at (lawful_at logs) (length logs) (subst T (sym ok) tt) i h

  pub all-finite : (i : ℕ) → 1 ≤ i → i < length logs → T (finite (get_or logs i nan))
  all-finite i l h = or_past (ltb i 1) (finite (get_or logs i nan)) (le-ltb i 1 l) (and_l (ltb i 1 || finite (get_or logs i nan)) (ltb i 2 || not (lt (get_or logs i nan) (get_or logs (i - 1) nan))) (each i h))

  number : (i : ℕ) → 1 ≤ i → i < length logs → T (not (is_nan (get_or logs i nan)))
  number i l h = finite_number binary32 (get_or logs i nan) (all-finite i l h)

  step : (i : ℕ) → 2 ≤ i → i < length logs → T (le (get_or logs (i - 1) nan) (get_or logs i nan))
  step i l h =
      not_lt→le binary32 (get_or logs i nan) (get_or logs (i - 1) nan) (fit i) (fit (i - 1)) (number i (omega arith) h) (number (i - 1) (omega arith) (omega arith))
      (is_false (lt (get_or logs i nan) (get_or logs (i - 1) nan)) (or_past (ltb i 2) (not (lt (get_or logs i nan) (get_or logs (i - 1) nan))) (le-ltb i 2 l) (and_r (ltb i 1 || finite (get_or logs i nan)) (ltb i 2 || not (lt (get_or logs i nan) (get_or logs (i - 1) nan))) (each i h))))

  -- from i to i + d
  chain : (i d : ℕ) → 1 ≤ i → i + d < length logs → T (le (get_or logs i nan) (get_or logs (i + d) nan))
  chain i zero l h = subst (λ (k : ℕ). T (le (get_or logs i nan) (get_or logs k nan))) (sym (add-zero i)) (le_refl (get_or logs i nan) (number i l (omega arith)))
  chain i (suc d) l h =
      let e : i + suc d - 1 ≡ i + d = omega arith in
      le_trans binary32 (get_or logs i nan) (get_or logs (i + d) nan) (get_or logs (i + suc d) nan) (fit i) (fit (i + d)) (fit (i + suc d)) (chain i d l (omega arith))
      (subst (λ (k : ℕ). T (le (get_or logs k nan) (get_or logs (i + suc d) nan))) e (step (i + suc d) (omega arith) h))

  ordered : (i j : ℕ) → 1 ≤ i → i ≤ j → j < length logs → T (le (get_or logs i nan) (get_or logs j nan))
  ordered i j l h k = let e : i + (j - i) ≡ j = omega arith in subst (λ (x : ℕ). T (le (get_or logs i nan) (get_or logs x nan))) e (chain i (j - i) l (omega arith))

  pub sorted : Sorted logs
  sorted =
      record {
        under = λ x p i j l h k e. le_lt (get_or logs i nan) (get_or logs j nan) x (ordered i j l h k) e;
        upto = λ x p i j l h k e. is_true _ (le_trans binary32 (get_or logs i nan) (get_or logs j nan) x (fit i) (fit j) p (ordered i j l h k) (subst T (sym e) tt));
      }
