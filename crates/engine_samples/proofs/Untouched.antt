-- What a birth and a delivery leave as it was: a birth touches the places, what comes next and the counters alone. And a sample counts one more.
use Rattle.std.proofs.Common.{◌≡◌, ℕ, List, Option, refl, ap, ◌∙◌}
use lib.Ieee.{Float}
use Rattle.floats.specs.Word.{grown}
use Rattle.sequences.specs.Pick.{either}
use Rattle.pool.specs.declared.Particle.{Particle}
use Rattle.settings.specs.declared.Shape.{Shape}
use Rattle.settings.specs.declared.Shape.TheVariants.{Sprinkle, Cloud}
use Rattle.timing.specs.declared.SprinkleStream.{SprinkleStream}
use Rattle.state.specs.declared.Engine.{Engine}
use Rattle.state.specs.declared.Next.{Next}
use Rattle.state.specs.declared.Tally.{Tally}
use Rattle.state.specs.State.{with_next, with_particles, with_streams, with_tally}
use Rattle.births.specs.Birth.{born_of, attempted_of, admitted_of}
use Rattle.engine_samples.specs.Sample.{tried_of, lane_of, lanes_of, cloud_of, by_shape_of, delivered_of, ticked_of, stepped_of}

-- a birth changes these three groups alone: what reads none of them reads the same after it
pub born-keeps : {A : Type 0} (π : Engine → A) → ((e : Engine) (ps : List Particle) (n : Next) (t : Tally) → π (with_tally (with_particles (with_next e n) ps) t) ≡ π e)
    → (e : Engine) (index : ℕ) (own : Option ℕ) → π (born_of e index own) ≡ π e
unfolding born_of attempted_of admitted_of
born-keeps π h e index own =
    either (λ x. π x ≡ π e) _ _ _ (h e e.particles _ _)
    (either (λ x. π x ≡ π e) _ _ _ (h e e.particles _ _) (either (λ x. π x ≡ π e) _ _ _ (h e _ _ _) (h e e.particles _ _)))

-- a delivery changes the streams besides
module _ {A : Type 0} (π : Engine → A) (born : (e : Engine) (ps : List Particle) (n : Next) (t : Tally) → π (with_tally (with_particles (with_next e n) ps) t) ≡ π e)
    (streamed : (e : Engine) (ss : List SprinkleStream) → π (with_streams e ss) ≡ π e) where
  pub tried-keeps : (e : Engine) (lane : ℕ) (reference : Float) → π (tried_of e lane reference) ≡ π e
  unfolding tried_of
  tried-keeps e lane reference =
      either (λ x. π x ≡ π e) _ _ _ refl
      (either (λ x. π x ≡ π e) _ _ _ (either (λ x. π x ≡ π e) _ _ _ (born-keeps π born _ _ _ ∙ streamed e _) (streamed e _)) (streamed e _))

  pub lane_keeps : (e : Engine) (lane : ℕ) (reference : Float) → π (lane_of e lane reference) ≡ π e
  unfolding lane_of
  lane_keeps e lane reference = tried-keeps (tried_of e lane reference) lane reference ∙ tried-keeps e lane reference

  pub lanes_keep : (e : Engine) (reference : Float) → π (lanes_of e reference) ≡ π e
  unfolding lanes_of
  lanes_keep e reference = lane_keeps _ 2 reference ∙ lane_keeps _ 1 reference ∙ lane_keeps e 0 reference

  pub cloud-keeps : (e : Engine) (reference : Float) → π (cloud_of e reference) ≡ π e
  unfolding cloud_of
  cloud-keeps e reference =
      either (λ x. π x ≡ π e) _ _ _
      (either (λ x. π x ≡ π e) _ _ _ (born-keeps π born _ _ _ ∙ born e e.particles _ e.tally) (born e e.particles _ e.tally)) refl

  shape-keeps : (shape : Shape) (e : Engine) (reference : Float) → π (by_shape_of shape e reference) ≡ π e
  unfolding by_shape_of
  shape-keeps Sprinkle e reference = lanes_keep e reference
  shape-keeps Cloud e reference = cloud-keeps e reference

  pub delivered_keeps : (e : Engine) → π (delivered_of e) ≡ π e
  unfolding delivered_of
  delivered_keeps e = either (λ x. π x ≡ π e) _ _ _ (shape-keeps _ e _) refl

-- ---- the count of samples
pub stepped_sample : (e : Engine) → (stepped_of e).clock.sample ≡ grown e.clock.sample
unfolding stepped_of ticked_of
stepped_sample e = ap grown (delivered_keeps (λ (x : Engine). x.clock.sample) (λ e ps n t. refl) (λ e ss. refl) e)
