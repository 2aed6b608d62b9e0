-- A loop that makes f of each element of an array in place, where f changes it, and beside it an array of
-- what g makes of the elements as they then are.
use Rattle.std.proofs.Common.{◌≡◌, ℕ, ◌+◌, ◌<◌, ◌≤◌, List, [], ◌∷◌, map, length, get_or, set, refl, ap, ◌∙◌, subst}
use lib.Seq.{set-get_or}
use Rattle.sequences.specs.Copied.{Copied, copied_none, copied_more, copied_all}
use Rattle.sequences.specs.Upto.{Mapped, mapped_none, mapped_more, mapped_all, upto-at}

map_twice : {A B : Type 0} (f : A → A) (g : A → B) (xs : List A) → map (λ x. g (f x)) xs ≡ map g (map f xs)
map_twice f g [] = refl
map_twice {A} {B} f g (x ∷ xs) = ap (λ (r : List B). g (f x) ∷ r) (map_twice f g xs)

-- the invariant of such a loop: xs is the array before it, ys and zs the two at its head, n their length
pub record Pass {A B : Type 0} (f : A → A) (g : A → B) (d : A) (n : ℕ) (xs : List A) (i : ℕ) (ys : List A) (zs : List B) : Type 0 where
  pub held : Mapped f n xs i ys
  pub shown : Copied (λ x. g (f x)) d n xs i zs

module _ {A B : Type 0} (f : A → A) (g : A → B) (d : A) (n : ℕ) (xs : List A) where
  pub pass_none : (zs : List B) → length xs ≡ n → length zs ≡ n → Pass f g d n xs 0 xs zs
  pass_none zs e l = record { held = mapped_none f n xs e; shown = copied_none (λ x. g (f x)) d n xs zs e l }

  module _ (i : ℕ) (ys : List A) (zs : List B) (m : Pass f g d n xs i ys zs) where
    -- what a turn reads has not been changed
    pub pass_read : (o : A) → get_or ys i o ≡ get_or xs i o
    pass_read o = ap (λ (r : List A). get_or r i o) m.held.is ∙ upto-at f i xs o

    -- a turn that stores what f makes of the element
    pub pass_changed : (o y : A) (z : B) → i < n → y ≡ f (get_or ys i o) → z ≡ g y → Pass f g d n xs (i + 1) (set ys i y) (set zs i z)
    pass_changed o y z h p q =
        record {
          held = mapped_more m.held o y h p;
          shown = copied_more (λ x. g (f x)) d n xs i zs m.shown o z h (q ∙ ap g p ∙ ap (λ (x : A). g (f x)) (pass_read o));
        }

    -- a turn that leaves an element which f doesn't change
    pub pass_kept : (o : A) (z : B) → i < n → get_or ys i o ≡ f (get_or ys i o) → z ≡ g (get_or ys i o) → Pass f g d n xs (i + 1) ys (set zs i z)
    pass_kept o z h p q =
        subst (λ (r : List A). Pass f g d n xs (i + 1) r (set zs i z)) (set-get_or ys i o) (pass_changed o (get_or ys i o) z h p q)

    pub pass_held : n ≤ i → ys ≡ map f xs
    pass_held h = mapped_all m.held h

    pub pass_shown : n ≤ i → zs ≡ map g (map f xs)
    pass_shown h = copied_all (λ x. g (f x)) d n xs i zs m.shown h ∙ map_twice f g xs
