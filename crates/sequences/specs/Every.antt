-- What holds of every element of a list, and of either side of a choice by a test.
use Rattle.std.specs.Prelude.{ℕ, zero, suc, ◌<◌, ◌≡◌, refl, Bool, true, false, List, [], ◌∷◌, ◌++◌, map, length, get_or, set, replicate}
use Rattle.std.proofs.Common.{le_of_suc-le-suc, not-suc-le-zero, ap, subst}
use Rattle.sequences.specs.Pick.{pick, picked, passed, by-case}

abbrev pub Every : {A : Type 0} → (A → Type 0) → List A → Type 0
Every P [] = Unit {0}
Every P (x ∷ xs) = P x × Every P xs

module _ {A : Type 0} (P Q : A → Type 0) where
  pub every_map : (f : A → A) → ((x : A) → P x → Q (f x)) → (xs : List A) → Every P xs → Every Q (map f xs)
  every_map f h [] a = tt
  every_map f h (x ∷ xs) a = (h x a.0, every_map f h xs a.1)

  pub every_imp : ((x : A) → P x → Q x) → (xs : List A) → Every P xs → Every Q xs
  every_imp h [] a = tt
  every_imp h (x ∷ xs) a = (h x a.0, every_imp h xs a.1)

module _ {A : Type 0} (P : A → Type 0) where
  pub every_set : (xs : List A) (i : ℕ) (y : A) → P y → Every P xs → Every P (set xs i y)
  every_set [] i y p a = tt
  every_set (x ∷ xs) zero y p a = (p, a.1)
  every_set (x ∷ xs) (suc i) y p a = (a.0, every_set xs i y p a.1)

  pub every_replicate : (n : ℕ) (x : A) → P x → Every P (replicate n x)
  every_replicate zero x p = tt
  every_replicate (suc n) x p = (p, every_replicate n x p)

  -- past the end too, where it holds of what stands there
  pub every_get_or : (xs : List A) (i : ℕ) (d : A) → P d → Every P xs → P (get_or xs i d)
  every_get_or [] i d p a = p
  every_get_or (x ∷ xs) zero d p a = a.0
  every_get_or (x ∷ xs) (suc i) d p a = every_get_or xs i d p a.1

  pub every_at : (xs : List A) (i : ℕ) (d : A) → i < length xs → Every P xs → P (get_or xs i d)
  every_at [] i d h a = absurd (not-suc-le-zero h)
  every_at (x ∷ xs) zero d h a = a.0
  every_at (x ∷ xs) (suc i) d h a = every_at xs i d (le_of_suc-le-suc h) a.1

  -- of an element by what stands before and behind it
  pub every_there : (before after : List A) (x : A) → Every P (before ++ x ∷ after) → P x
  every_there [] after x a = a.0
  every_there (y ∷ before) after x a = every_there before after x a.1

  pub every_each : (xs : List A) → ((before after : List A) (x : A) → xs ≡ before ++ x ∷ after → P x) → Every P xs
  every_each [] h = tt
  every_each (x ∷ xs) h = (h [] xs x refl, every_each xs (λ before after y q. h (x ∷ before) after y (ap {B = List A} (λ (ys : List A). x ∷ ys) q)))

-- each side knows how the test came out
pub in_case : {A : Type 0} (P : A → Type 0) (t : Bool) (a b : A) → (t ≡ true → P a) → (t ≡ false → P b) → P (pick t a b)
in_case P t a b p q = by-case t (λ e. subst P (picked t a b e) (p e)) (λ e. subst P (passed t a b e) (q e))
