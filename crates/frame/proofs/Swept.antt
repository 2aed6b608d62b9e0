-- What a frame makes of a place that is due, and of one that isn't; and each that was held is still held, or freed.
use Rattle.std.proofs.Common.{◌≡◌, ℕ, ◌+◌, Bool, true, false, ◌&&◌, refl, ap, ◌∙◌}
use lib.Ieee.{Float}
use Rattle.sequences.specs.Counts.{worth}
use Rattle.sequences.specs.Pick.{pick, picked, passed}
use Rattle.pool.specs.declared.Particle.{Particle}
use Rattle.pool.specs.Pool.{free_particle}
use Rattle.frame.specs.Freed.{due_of, sweep_one}
use Rattle.frame.specs.Shown.{nothing, shown_of}

both_tests : {A : Type 0} (s t : Bool) (a b : A) → pick (s && t) a b ≡ pick s (pick t a b) b
unfolding pick
both_tests true t a b = refl
both_tests false t a b = refl

module _ (sample : ℕ) (rate : Float) where
  pub due-is-freed : (p : Particle) → (p.active && due_of sample rate p) ≡ true → free_particle ≡ sweep_one sample rate p
  unfolding sweep_one
  due-is-freed p e = picked _ free_particle p e ∙ both_tests p.active (due_of sample rate p) free_particle p

  pub other_stays : (p : Particle) → (p.active && due_of sample rate p) ≡ false → p ≡ sweep_one sample rate p
  unfolding sweep_one
  other_stays p e = passed _ free_particle p e ∙ both_tests p.active (due_of sample rate p) free_particle p

  pub held_or_freed : (p : Particle) → worth (sweep_one sample rate p).active + worth (p.active && due_of sample rate p) ≡ worth p.active
  unfolding sweep_one pick free_particle
  held_or_freed p = go p.active (due_of sample rate p) refl
    where
      go : (a d : Bool) → p.active ≡ a → worth (pick a (pick d free_particle p) p).active + worth (a && d) ≡ worth a
      go true true q = refl
      go true false q = ap (λ (b : Bool). worth b + 0) q
      go false d q = ap (λ (b : Bool). worth b + 0) q

  pub free-shows-nothing : nothing ≡ shown_of sample rate free_particle
  unfolding shown_of pick free_particle
  free-shows-nothing = refl
