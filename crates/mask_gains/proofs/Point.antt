-- The library's search among bins 1 up finds the first that fails.
use Rattle.std.specs.Prelude.{◌≡◌, ℕ, ◌+◌, ◌-◌, ◌≤◌, ◌<◌, Bool, true, false, List, length, get_or, drop, Float}
use Rattle.std.specs.Float.{nan}
use Rattle.std.specs.List.Sorted.{IsPartitionedBy, IsPartitionPoint}
use Rattle.std.proofs.Common.{sym, ap, ◌∙◌, subst, arith}
use Rattle.std.proofs.lemmas.List.{get_or-drop, length-drop, get_or_default}
use Rattle.mask_gains.specs.Search.{Falls, First}

module _ (test : Float → Bool) (logs : List Float) {rest : List Float} (e : rest ≡ drop 1 logs) where
  long : length rest ≡ length logs - 1
  long = ap length e ∙ length-drop 1 logs

  at : (k : ℕ) (d : Float) → k < length rest → get_or rest k d ≡ get_or logs (1 + k) nan
  at k d h = ap (λ (r : List Float). get_or r k d) e ∙ get_or-drop 1 logs k d ∙ get_or_default logs (1 + k) d nan (omega (arith, long))

  pub partitioned : Falls (λ i. test (get_or logs i nan)) (length logs) → IsPartitionedBy test rest
  partitioned m i j d le lt t =
      ap test (at i d (omega arith)) ∙ m (1 + i) (1 + j) (omega arith) (omega arith) (omega (arith, long)) (sym (ap test (at j d lt)) ∙ t)

  pub first_at : (i : ℕ) → 2 ≤ length logs → i ≤ length rest → IsPartitionPoint (λ y. test y ≡ true) (λ y. test y ≡ false) rest i
      → First (λ k. test (get_or logs k nan)) (length logs) (1 + i)
  first_at i two h (p, q) =
      record {
        low = omega arith;
        high = omega (arith, long);
        before = λ k a b. on k a (omega (arith, long)) true (p (k - 1) nan (omega arith) (omega arith));
        after = λ k a b. on k (omega arith) b false (q (k - 1) nan (omega arith) (omega (arith, long)));
      }
    where
      on : (k : ℕ) → 1 ≤ k → k < length logs → (b : Bool) → test (get_or rest (k - 1) nan) ≡ b → test (get_or logs k nan) ≡ b
      on k a l b e = let r : 1 + (k - 1) ≡ k = omega arith in subst (λ j. test (get_or logs j nan) ≡ b) r (sym (ap test (at (k - 1) nan (omega (arith, long)))) ∙ e)
