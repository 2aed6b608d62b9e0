-- Tables: what the last arm of a `match` knows, and what stands past the end of a list.
use mathlib.Core.Path.{◌≡◌, refl, sym}
use mathlib.Core.Logic.{inl, inr}
use mathlib.Core.List.{List, [], ◌∷◌}
use Prim.Native.Nat.{ℕ, zero, suc, zero-le, ◌≤◌}
use native.Mathlib.Nat.{not-suc-le-zero, le_of_suc-le-suc, eq-or-lt_of_le}
use lib.ListN.{length, get_or}

-- i is none of the numbers below n, as the last arm of a `match` on 0 to n - 1 has it: so it is n or more
abbrev pub Apart : ℕ → ℕ → Type 0
Apart zero i = Unit {0}
Apart (suc n) i = Apart n i × (i ≡ n → ⊥)

pub past : (n i : ℕ) → Apart n i → n ≤ i
past zero i a = zero-le
past (suc n) i a = elim (eq-or-lt_of_le (past n i a.0)) [
  | inl e ↦ absurd (a.1 (sym e))
  | inr l ↦ l
]

pub past_end : {A : Type 0} (xs : List A) (i : ℕ) (d : A) → length xs ≤ i → get_or xs i d ≡ d
past_end [] i d h = refl
past_end (x ∷ xs) zero d h = absurd (not-suc-le-zero h)
past_end (x ∷ xs) (suc i) d h = past_end xs i d (le_of_suc-le-suc h)
