-- An array that the library's `from_fn(f)` makes, where f leaves its captures as they were.
use Rattle.std.specs.Prelude.{◌≡◌, List, ℕ, zero, suc, ◌+◌, ◌≤◌, ◌<◌}
use Rattle.std.proofs.Common.{sym, subst, ◌∙◌, inl, inr, eq-or-lt_of_le, arith}
use Rattle.std.proofs.lemmas.List.{same_lists}
use Rattle.std.specs.Array.{IsElementAt, IsFromFnResultFrom, IsFromFnResult}
use Rattle.std.specs.Fn.{Called}
use denote.Param.Members.{Mut}
use Rattle.sequences.specs.Table.{table, table_at, length_table}

-- each call gives h of its number
module _ {F B : Type 0} (g : Mut F (ℕ × Unit {0}) B) (h : ℕ → B) (f : F) (calls : (i : ℕ) (y : B) (q : F) → Called g f (i, tt) y q → (q ≡ f) × (y ≡ h i)) where
  place : (n i k : ℕ) (ys : List B) → IsFromFnResultFrom g f ys i n → i ≤ k → k < i + n → IsElementAt ys k (h k)
  place zero i k ys m l u = absurd (omega arith)
  place (suc n) i k ys (q, y, at_y, call, rest) l u =
      let (same, is) = calls i y q call in
      elim (eq-or-lt_of_le l) [
        | inl e ↦ subst (λ j. IsElementAt ys j (h j)) e (subst (λ z. IsElementAt ys i z) is at_y)
        | inr b ↦ place n (i + 1) k ys (subst (λ p. IsFromFnResultFrom g p ys (i + 1) n) same rest) (omega arith) (omega arith)
      ]

  pub tabled_by : {n : ℕ} {ys : List B} → IsFromFnResult g f ys n → ys ≡ table n h
  tabled_by {n} {ys} m =
      same_lists ys (table n h) (m.long ∙ sym (length_table n h))
      (λ k d l. let b : k < n = omega (arith, m.long) in (place n 0 k ys m.each (omega arith) (omega arith)).1 d ∙ sym (table_at n h k d b))
