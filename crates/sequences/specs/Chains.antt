-- What the library's iterators give, in the words of this crate: `fold` and `sum`, `filter` and `count`, `map`.
use Rattle.std.specs.Prelude.{◌≡◌, refl, Bool, true, false, ◌&&◌, Option, List, [], ◌∷◌, map, fold, filter, ℕ, zero, suc, ◌+◌, length}
use Rattle.std.specs.List.{enumerate_from, list_all, range_with_len}
use Rattle.std.specs.Bool.{⊤}
use Rattle.std.specs.Iterator.{Drains}
use Rattle.std.proofs.iter.Yields.{gives_Drains}
use Rattle.std.proofs.lemmas.Iterator.{YieldsList}
use Rattle.std.proofs.lemmas.List.Folds.{fold-map, list_all-append, list_all-map}
use Rattle.std.proofs.Common.{sym, ap, ◌∙◌, add-one, add-zero, zero-add, arith}
use Rattle.std.proofs.lemmas.List.FromFn.{map-range_with_len_more}
use Rattle.std.proofs.lemmas.List.Sums.{fold-append}
use Rattle.sequences.specs.All.{all}
use Rattle.sequences.specs.Pick.{pick, by-case}
use Rattle.sequences.specs.Times.{times}
use Rattle.sequences.specs.Walk.{walk, counting, count}

-- a walk that asks for no index
module _ {A S : Type 0} (h : S → A → S) where
  folds-from : (i : ℕ) (xs : List A) (s : S) → walk (λ j x t. h t x) i xs s ≡ fold h s xs
  unfolding walk
  folds-from i [] s = refl
  folds-from i (x ∷ xs) s = folds-from (suc i) xs (h s x)

  pub folds : (xs : List A) (s : S) → fold h s xs ≡ walk (λ j x t. h t x) 0 xs s
  folds xs s = sym (folds-from 0 xs s)

-- steps that only add what f gives of their number
module _ {A S : Type 0} (h : S → A → S) (f : ℕ → A) where
  pub steps : (n : ℕ) (s : S) → fold h s (map f (range_with_len 0 n)) ≡ times (λ i t. h t (f i)) n s
  unfolding times
  steps zero s = refl
  steps (suc n) s =
      ap (λ (m : ℕ). fold h s (map f (range_with_len 0 m))) (sym (add-one n))
      ∙ ap (fold h s) (map-range_with_len_more f 0 n n (zero-add n))
      ∙ fold-append h s (map f (range_with_len 0 n)) (f n ∷ [])
      ∙ ap (λ (t : S). h t (f n)) (steps n s)

-- how many pass
module _ {A : Type 0} (q : ℕ → A → Bool) where
  passing : ℕ → List A → ℕ
  passing i xs = length (filter (λ p. q p.0 p.1) (enumerate_from i xs))

  counts-from : (i : ℕ) (xs : List A) (n : ℕ) → walk (counting q) i xs n ≡ n + passing i xs
  unfolding walk pick passing
  counts-from i [] n = sym (add-zero n)
  counts-from i (x ∷ xs) n =
      let on : (m : ℕ) → walk (counting q) (suc i) xs m ≡ m + passing (i + 1) xs = λ m. rw add-one (counts-from (suc i) xs m) in
      by-case (q i x) (λ e. rw e (on (n + 1) ∙ omega arith)) (λ e. rw e (on n))

  pub counts : (xs : List A) → length (filter (λ p. q p.0 p.1) (enumerate_from 0 xs)) ≡ count q xs
  unfolding passing
  counts xs = let h = counts-from 0 xs 0 in omega arith

-- what `sum` makes of floats, which its trait gives as a fold of the items
pub summed : {S A B C : Type 0} {steps : S → Option A → S → Type 0} {v : A → B} {s : S} {all : List B} (h : C → B → C) (start r : C)
    → ((xs : List A) × (⊤ → Drains steps s xs) × (r ≡ fold (λ a x. h a (v x)) start xs)) → YieldsList steps v s all → r ≡ fold h start all
summed {steps = steps} {v} {s} {all} h start r d e = d.2 ∙ sym (fold-map h v start d.0) ∙ ap (fold h start) (gives_Drains steps v d.0 all s e.runs (d.1 tt))

-- what `all` answers over a range
module _ (f : ℕ → Bool) where
  and_true : (b : Bool) → (b && true) ≡ b
  and_true true = refl
  and_true false = refl

  flags : (n : ℕ) → list_all (λ b. b) (map f (range_with_len 0 n)) ≡ all f n
  flags zero = refl
  flags (suc n) =
      ap (λ (m : ℕ). list_all (λ b. b) (map f (range_with_len 0 m))) (sym (add-one n))
      ∙ ap (list_all (λ b. b)) (map-range_with_len_more f 0 n n (zero-add n))
      ∙ list_all-append (λ b. b) (map f (range_with_len 0 n)) (f n ∷ [])
      ∙ rw (flags n, and_true (f n)) refl

  pub all_in : (n : ℕ) → list_all f (range_with_len 0 n) ≡ all f n
  all_in n = sym (list_all-map (λ b. b) f (range_with_len 0 n)) ∙ flags n
