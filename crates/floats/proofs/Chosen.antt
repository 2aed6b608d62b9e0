-- A choice among values of one kind is the same choice among the floats that they stand for.
use Rattle.std.proofs.Common.{◌≡◌, Bool, true, false, cond, pos, sym, refl, ap, ◌∙◌}
use lib.Ieee.{Float, fin, Format, add, rem, lt}
use Rattle.floats.specs.Choose.{clamp, abs}
use Rattle.floats.specs.Remainder.{rem_euclid}

module _ {A : Type 0} (value : A → Float) (of : Float → A) (own : (x : A) → of (value x) ≡ x) where
  pub chosen : (t : Bool) (x y : A) → cond t x y ≡ of (cond t (value x) (value y))
  chosen true x y = sym (own x)
  chosen false x y = sym (own y)

  pub chosen_of_three : (t u : Bool) (x y z : A) → cond t x (cond u y z) ≡ of (cond t (value x) (cond u (value y) (value z)))
  chosen_of_three true u x y z = sym (own x)
  chosen_of_three false u x y z = chosen u y z

  value_of : (t : Bool) (x y : A) → value (cond t x y) ≡ cond t (value x) (value y)
  value_of true x y = refl
  value_of false x y = refl

  pub clamp-is : (x a b : A) → (let y = cond (lt (value x) (value a)) a x in cond (lt (value b) (value y)) b y) ≡ of (clamp (value x) (value a) (value b))
  unfolding clamp
  clamp-is x a b =
      let t = lt (value x) (value a) in
      chosen (lt (value b) (value (cond t a x))) b (cond t a x) ∙ ap (λ (y : Float). of (cond (lt (value b) y) (value b) y)) (value_of t a x)

  of-cond : (t : Bool) (x y : Float) → cond t (of x) (of y) ≡ of (cond t x y)
  of-cond true x y = refl
  of-cond false x y = refl

  -- r is the remainder, s it with the divisor's size a added
  pub euclid-is : ((x : Float) → value (of x) ≡ x) → (f : Format) (x m : Float) (r a s : A) → r ≡ of (rem f x m) → a ≡ of (abs m) → s ≡ of (add f (value r) (value a))
      → cond (lt (value r) (fin false 0 (pos 0))) s r ≡ of (rem_euclid f x m)
  unfolding rem_euclid
  euclid-is stands f x m r a s h k e =
      let q : value r ≡ rem f x m = ap value h ∙ stands (rem f x m) in
      let w : value a ≡ abs m = ap value k ∙ stands (abs m) in
      ap (λ (z : A). cond (lt (value r) (fin false 0 (pos 0))) z r) e
      ∙ ap (λ (z : A). cond (lt (value r) (fin false 0 (pos 0))) (of (add f (value r) (value a))) z) h
      ∙ of-cond (lt (value r) (fin false 0 (pos 0))) (add f (value r) (value a)) (rem f x m)
      ∙ ap (λ (z : Float). of (cond (lt z (fin false 0 (pos 0))) (add f z (value a)) (rem f x m))) q
      ∙ ap (λ (z : Float). of (cond (lt (rem f x m) (fin false 0 (pos 0))) (add f (rem f x m) z) (rem f x m))) w
