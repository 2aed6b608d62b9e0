-- What the larger, the smaller and the held one of floats are, over the format: one of their operands, in order with them.
use mathlib.Core.Bool.{not, cond}
use lib.Dec.{T}
use lib.Ieee.{Float, Format, lt, le, fits, is_nan}
use lib.Ieee.Bits.{is_false}
use lib.Ieee.Fits.{cond-fits}
use Rattle.sequences.specs.Pick.{by-case}
use Rattle.floats.specs.Choose.{max, min, clamp}
use Rattle.floats.proofs.Rounded.{cond_number}
use Rattle.floats_laws.proofs.Rules.{le_left, le_right, lt→le, not_lt→le}
use Rattle.floats_laws.proofs.Rising.{le_refl}

module _ (f : Format) where
  pub max-fits : (x y : Float) → T (fits f x) → T (fits f y) → T (fits f (max x y))
  unfolding max
  max-fits x y p q = cond-fits f (is_nan x) y (cond (lt x y) y x) q (cond-fits f (lt x y) y x q p)

  pub min-fits : (x y : Float) → T (fits f x) → T (fits f y) → T (fits f (min x y))
  unfolding min
  min-fits x y p q = cond-fits f (is_nan x) y (cond (lt y x) y x) q (cond-fits f (lt y x) y x q p)

  pub clamp-fits : (x a b : Float) → T (fits f x) → T (fits f a) → T (fits f b) → T (fits f (clamp x a b))
  unfolding clamp
  clamp-fits x a b p q r = cond-fits f (lt b (cond (lt x a) a x)) b (cond (lt x a) a x) r (cond-fits f (lt x a) a x q p)

  -- what is not NaN is at most the larger and at least the smaller
  module _ (x y : Float) (p : T (fits f x)) (q : T (fits f y)) (u : T (not (is_nan x))) (v : T (not (is_nan y))) where
    pub max-left : T (le x (max x y))
    unfolding max
    max-left = rw (is_false (is_nan x) u) (by-case (lt x y) (λ e. rw e (lt→le x y e)) (λ e. rw e (le_refl x u)))

    pub max-right : T (le y (max x y))
    unfolding max
    max-right = rw (is_false (is_nan x) u) (by-case (lt x y) (λ e. rw e (le_refl y v)) (λ e. rw e (not_lt→le f x y p q u v e)))

    pub min-left : T (le (min x y) x)
    unfolding min
    min-left = rw (is_false (is_nan x) u) (by-case (lt y x) (λ e. rw e (lt→le y x e)) (λ e. rw e (le_refl x u)))

    pub min-right : T (le (min x y) y)
    unfolding min
    min-right = rw (is_false (is_nan x) u) (by-case (lt y x) (λ e. rw e (le_refl y v)) (λ e. rw e (not_lt→le f y x q p v u e)))

  -- a number held from a to b lies there
  module _ (x a b : Float) (p : T (fits f x)) (q : T (fits f a)) (r : T (fits f b)) (u : T (not (is_nan x))) (h : T (le a b)) where
    abbrev from : Float
    from = cond (lt x a) a x

    held_fits : T (fits f from)
    held_fits = cond-fits f (lt x a) a x q p

    held_number : T (not (is_nan from))
    held_number = cond_number (lt x a) a x (le_left a b h) u

    held-least : T (le a from)
    held-least = by-case (lt x a) (λ e. rw e (le_refl a (le_left a b h))) (λ e. rw e (not_lt→le f x a p q u (le_left a b h) e))

    pub clamp-least : T (le a (clamp x a b))
    unfolding clamp
    clamp-least = by-case (lt b from) (λ e. rw e h) (λ e. rw e held-least)

    pub clamp_most : T (le (clamp x a b) b)
    unfolding clamp
    clamp_most = by-case (lt b from) (λ e. rw e (le_refl b (le_right a b h))) (λ e. rw e (not_lt→le f b from r held_fits (le_right a b h) held_number e))
