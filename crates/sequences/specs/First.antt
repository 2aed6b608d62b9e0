-- A loop that searches an array and stops at the first element that passes: `for i in 0..n { if q(i, xs[i]) { return i; } } n`.
use Rattle.std.specs.Prelude.{◌≡◌, Bool, not, ltb, length, get_or, drop, MatchOption, Some, None, position}
use Rattle.std.specs.List.{position_or_len}
use Rattle.std.proofs.Math.Path.{sym, ap, subst}
use Rattle.std.proofs.Common.{◌∙◌, inl, inr, true≢false, lt_trans, eq-or-lt_of_le, le_of_suc-le-suc, not-suc-le-zero, zero-add, add-zero, add-suc, suc-add, arith, ltb-true, ltb-false}
use Rattle.std.proofs.Math.Bool.{true, false}
use Rattle.std.proofs.lemmas.List.{length-take}
use Rattle.std.proofs.lemmas.List.Folds.{length-prefix_len}
use mathlib.Core.List.{List, [], ◌∷◌}
use Prim.Native.Nat.{ℕ, zero, suc, ◌+◌, ◌≤◌, ◌<◌}
use Rattle.std.proofs.Math.Nat.{le_refl}
use Rattle.sequences.specs.Pick.{pick, picked, passed, either, by-case}
use Rattle.sequences.specs.Rest.{Rest, rest-none, rest_more, rest_here, rest_all}

-- the index of the first element that passes the test, which is told the index too, of elements from i on; the index after the last where none does
unfoldable pub first_from : {A : Type 0} → (ℕ → A → Bool) → ℕ → List A → Unit {0} → ℕ
first_from q i [] u = i
first_from q i (x ∷ xs) u = pick (q i x) i (first_from q (suc i) xs u)

abbrev pub first : {A : Type 0} → (ℕ → A → Bool) → List A → ℕ
first q xs = first_from q 0 xs tt

-- the invariant of such a loop: none of the first i elements passed
abbrev pub Sought : {A : Type 0} → (ℕ → A → Bool) → ℕ → List A → ℕ → Type 0
Sought q n xs i = Rest (first_from q) n xs tt i tt

module _ {A : Type 0} (q : ℕ → A → Bool) where
  pub sought_none : (n : ℕ) (xs : List A) → length xs ≡ n → Sought q n xs 0
  sought_none n xs e = rest-none (first_from q) n xs tt e

  module _ {n : ℕ} {xs : List A} {i : ℕ} (m : Sought q n xs i) where
    -- the test fails at i
    pub sought_more : (d : A) → i < n → q i (get_or xs i d) ≡ false → Sought q n xs (i + 1)
    unfolding first_from
    sought_more d h e = rest_more m d tt h (sym (passed (q i (get_or xs i d)) i (first_from q (suc i) (drop (suc i) xs) tt) e))

    -- it passes
    pub sought_here : (d : A) → i < n → q i (get_or xs i d) ≡ true → i ≡ first q xs
    unfolding first_from
    sought_here d h e = picked (q i (get_or xs i d)) i (first_from q (suc i) (drop (suc i) xs) tt) e ∙ sym (rest_here m d h)

    -- it never did
    pub sought_all : n ≤ i → n ≡ first q xs
    unfolding first_from
    sought_all h = let e : n ≡ i = omega (arith, m.below) in e ∙ sym (rest_all m h)

-- ---- what the first one is: the only index that passes with none below it that does
module _ {A : Type 0} (q : ℕ → A → Bool) (d : A) where
  from-least : (i : ℕ) (xs : List A) → i ≤ first_from q i xs tt
  unfolding first_from
  from-least i [] = le_refl i
  from-least i (x ∷ xs) = either (λ r. i ≤ r) (q i x) i (first_from q (suc i) xs tt) (le_refl i) (let h = from-least (suc i) xs in omega arith)

  shifted : (i j : ℕ) → i + suc j ≡ suc i + j
  shifted i j = add-suc i j ∙ sym (suc-add i j)

  opened : (i : ℕ) (x : A) (xs : List A) (b : Bool) → q i x ≡ b → (j : ℕ) → i + j < first_from q i (x ∷ xs) tt → i + j < pick b i (first_from q (suc i) xs tt)
  unfolding first_from
  opened i x xs b e j h = subst (λ (c : Bool). i + j < pick c i (first_from q (suc i) xs tt)) e h

  from-fails : (i : ℕ) (xs : List A) (j : ℕ) → i + j < first_from q i xs tt → q (i + j) (get_or xs j d) ≡ false
  unfolding first_from pick
  from-fails i [] j h = absurd (omega arith)
  from-fails i (x ∷ xs) zero h =
      by-case (q i x) (λ e. absurd (let g : i + 0 < i = opened i x xs true e 0 h in omega arith)) (λ e. ap (λ (k : ℕ). q k x) (add-zero i) ∙ e)
  from-fails i (x ∷ xs) (suc j) h =
      by-case (q i x) (λ e. absurd (let g : i + suc j < i = opened i x xs true e (suc j) h in omega arith))
      (λ e. ap (λ (k : ℕ). q k (get_or xs j d)) (shifted i j) ∙ from-fails (suc i) xs j (subst (λ (k : ℕ). k < first_from q (suc i) xs tt) (shifted i j) (opened i x xs false e (suc j) h)))

  from-passes : (i : ℕ) (xs : List A) (j : ℕ) → i + j ≡ first_from q i xs tt → j < length xs → q (i + j) (get_or xs j d) ≡ true
  unfolding first_from pick
  from-passes i [] j h l = absurd (not-suc-le-zero l)
  from-passes i (x ∷ xs) zero h l =
      by-case (q i x) (λ e. ap (λ (k : ℕ). q k x) (add-zero i) ∙ e) (λ e. absurd (let g : i + 0 ≡ first_from q (suc i) xs tt = h ∙ sym (passed (q i x) i (first_from q (suc i) xs tt) e) in omega (arith, from-least (suc i) xs)))
  from-passes i (x ∷ xs) (suc j) h l =
      by-case (q i x) (λ e. absurd (let g : i + suc j ≡ i = h ∙ sym (picked (q i x) i (first_from q (suc i) xs tt) e) in omega arith))
      (λ e. ap (λ (k : ℕ). q k (get_or xs j d)) (shifted i j) ∙ from-passes (suc i) xs j (sym (shifted i j) ∙ h ∙ sym (passed (q i x) i (first_from q (suc i) xs tt) e)) (le_of_suc-le-suc l))

  pub first-fails : (xs : List A) (j : ℕ) → j < first q xs → q j (get_or xs j d) ≡ false
  first-fails xs j h = subst (λ (k : ℕ). q k (get_or xs j d) ≡ false) (zero-add j) (from-fails 0 xs j (subst (λ (k : ℕ). k < first q xs) (sym (zero-add j)) h))

  pub first_passes : (xs : List A) → first q xs < length xs → q (first q xs) (get_or xs (first q xs) d) ≡ true
  first_passes xs h = subst (λ (k : ℕ). q k (get_or xs (first q xs) d) ≡ true) (zero-add (first q xs)) (from-passes 0 xs (first q xs) (zero-add (first q xs)) h)

  pub first-is : (xs : List A) (i : ℕ) → i < length xs → q i (get_or xs i d) ≡ true → ((j : ℕ) → j < i → q j (get_or xs j d) ≡ false) → i ≡ first q xs
  first-is xs i l e b =
      by-case (ltb i (first q xs)) (λ h. absurd (true≢false (sym e ∙ first-fails xs i (ltb-true _ _ h))))
      (λ h. elim (eq-or-lt_of_le (ltb-false i (first q xs) h)) [
        | inl g ↦ sym g
        | inr g ↦ absurd (true≢false (sym (first_passes xs (lt_trans g l)) ∙ b (first q xs) g))
      ])

-- ---- a test that is told no index, as the library's `position` has it
module _ {A : Type 0} (p : A → Bool) where
  first-counts : (i : ℕ) (xs : List A) → first_from (λ j x. p x) i xs tt ≡ i + position_or_len p xs
  unfolding first_from pick
  first-counts i [] = omega arith
  first-counts i (x ∷ xs) =
      by-case (p x) (λ e. rw e (omega arith)) (λ e. rw e (first-counts (suc i) xs ∙ omega arith))

  pub first_or_len : (xs : List A) → first (λ i x. p x) xs ≡ position_or_len p xs
  first_or_len xs = first-counts 0 xs ∙ zero-add (position_or_len p xs)

  positioned : (xs : List A) → MatchOption (position p xs) (length xs ≡ first (λ i x. p x) xs) (λ i. i ≡ first (λ i x. p x) xs)
  positioned xs =
      by-case (ltb (position_or_len p xs) (length xs)) (λ e. rw e (sym (first_or_len xs)))
      (λ e. rw e (sym (first_or_len xs ∙ (let h = ltb-false _ _ e in let k = length-prefix_len (λ x. not (p x)) xs in let t = length-take (position_or_len p xs) xs in omega arith))))

  -- what it answers
  pub found : (xs : List A) (i : ℕ) → Some i ≡ position p xs → i ≡ first (λ i x. p x) xs
  found xs i e = subst (λ r. MatchOption r (length xs ≡ first (λ i x. p x) xs) (λ i. i ≡ first (λ i x. p x) xs)) (sym e) (positioned xs)

  pub found_none : (xs : List A) → None ≡ position p xs → length xs ≡ first (λ i x. p x) xs
  found_none xs e = subst (λ r. MatchOption r (length xs ≡ first (λ i x. p x) xs) (λ i. i ≡ first (λ i x. p x) xs)) (sym e) (positioned xs)
