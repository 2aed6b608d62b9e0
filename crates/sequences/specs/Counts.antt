-- How the count of the elements that pass a test follows a change of the list. The test is told the index too.
use Rattle.std.specs.Prelude.{◌≡◌, Bool, length, get_or, set}
use Rattle.std.proofs.Math.Path.{refl, sym, ap, subst}
use Rattle.std.proofs.Common.{◌∙◌, le_of_suc-le-suc, not-suc-le-zero, zero-add, add-zero, add-suc, suc-add, arith}
use Rattle.std.proofs.Math.Bool.{true, false}
use mathlib.Core.List.{List, [], ◌∷◌, map}
use Prim.Native.Nat.{ℕ, zero, suc, ◌+◌, ◌<◌}
use Rattle.sequences.specs.Pick.{pick, picked, passed}
use Rattle.sequences.specs.Walk.{walk, counting, count}

-- what an element adds to the count
abbrev pub worth : Bool → ℕ
worth b = pick b 1 0

worth_adds : (b : Bool) (n : ℕ) → pick b (n + 1) n ≡ n + worth b
unfolding pick
worth_adds true n = refl
worth_adds false n = sym (add-zero n)

module _ {A : Type 0} (q : ℕ → A → Bool) where
  -- one more to begin with is one more in the end
  one-before : (i : ℕ) (xs : List A) (n : ℕ) → walk (counting q) i xs (n + 1) ≡ walk (counting q) i xs n + 1
  unfolding walk
  one-before i [] n = refl
  one-before i (x ∷ xs) n =
      ap (walk (counting q) (suc i) xs) (let a = worth_adds (q i x) (n + 1) in let b = worth_adds (q i x) n in omega arith)
      ∙ one-before (suc i) xs (counting q i x n)

  -- ---- an element in the place of another
  set_from : (i : ℕ) (xs : List A) (j : ℕ) (y d : A) (n : ℕ) → j < length xs → q (i + j) (get_or xs j d) ≡ false → q (i + j) y ≡ true
      → walk (counting q) i (set xs j y) n ≡ walk (counting q) i xs (n + 1)
  unfolding walk
  set_from i [] j y d n h a b = absurd (not-suc-le-zero h)
  set_from i (x ∷ xs) zero y d n h a b =
      let here : (z : A) (v : Bool) → q (i + 0) z ≡ v → q i z ≡ v = λ z v e. subst (λ (k : ℕ). q k z ≡ v) (add-zero i) e in
      ap (walk (counting q) (suc i) xs) (sym (picked (q i y) (n + 1) n (here y true b)) ∙ passed (q i x) (n + 1 + 1) (n + 1) (here x false a))
  set_from i (x ∷ xs) (suc j) y d n h a b =
      let on : (z : A) (v : Bool) → q (i + suc j) z ≡ v → q (suc i + j) z ≡ v = λ z v e. subst (λ (k : ℕ). q k z ≡ v) (add-suc i j ∙ sym (suc-add i j)) e in
      set_from (suc i) xs j y d (counting q i x n) (le_of_suc-le-suc h) (on (get_or xs j d) false a) (on y true b)
      ∙ ap (walk (counting q) (suc i) xs) (let c = worth_adds (q i x) (n + 1) in let e = worth_adds (q i x) n in omega arith)

  -- one that passes in the place of one that didn't
  pub count_set : (xs : List A) (j : ℕ) (y d : A) → j < length xs → q j (get_or xs j d) ≡ false → q j y ≡ true → count q (set xs j y) ≡ count q xs + 1
  count_set xs j y d h a b =
      let at : (z : A) (v : Bool) → q j z ≡ v → q (0 + j) z ≡ v = λ z v e. subst (λ (k : ℕ). q k z ≡ v) (sym (zero-add j)) e in
      set_from 0 xs j y d 0 h (at (get_or xs j d) false a) (at y true b) ∙ one-before 0 xs 0

  -- ---- every element changed
  module _ (f : A → A) where
    kept_from : ((i : ℕ) (x : A) → q i (f x) ≡ q i x) → (i : ℕ) (xs : List A) (n : ℕ) → walk (counting q) i (map f xs) n ≡ walk (counting q) i xs n
    unfolding walk
    kept_from h i [] n = refl
    kept_from h i (x ∷ xs) n = kept_from h (suc i) xs (counting q i (f x) n) ∙ ap (λ (b : Bool). walk (counting q) (suc i) xs (pick b (n + 1) n)) (h i x)

    -- as before, where the test can't tell
    pub count_kept : ((i : ℕ) (x : A) → q i (f x) ≡ q i x) → (xs : List A) → count q (map f xs) ≡ count q xs
    count_kept h xs = kept_from h 0 xs 0

    module _ (r : ℕ → A → Bool) (split : (i : ℕ) (x : A) → worth (q i (f x)) + worth (r i x) ≡ worth (q i x)) where
      split_from : (i : ℕ) (xs : List A) (m n : ℕ) → walk (counting q) i (map f xs) m + walk (counting r) i xs n ≡ walk (counting q) i xs (m + n)
      unfolding walk
      split_from i [] m n = refl
      split_from i (x ∷ xs) m n =
          split_from (suc i) xs (counting q i (f x) m) (counting r i x n)
          ∙ ap (walk (counting q) (suc i) xs)
          (let a = worth_adds (q i (f x)) m in
          let b = worth_adds (r i x) n in
          let c = worth_adds (q i x) (m + n) in
          let s = split i x in
          omega arith)

      -- each that passed does so still, or passes the other test
      pub count-split : (xs : List A) → count q (map f xs) + count r xs ≡ count q xs
      count-split xs = split_from 0 xs 0 0
