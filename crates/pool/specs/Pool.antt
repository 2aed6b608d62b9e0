-- The particles in the places, line by line as the Rust has them. A place is free where its particle is not active. Definitions only.
use Rattle.std.specs.Prelude.{ℕ, false, [], ◌∷◌, eqb, Float, Option, Some, None}
use Rattle.std.specs.Option.{unwrap_or, option_eq}
use Rattle.sequences.specs.Pick.{pick}
use Rattle.floats.specs.Names.{f32, f64}
use Rattle.pool.specs.declared.Particle.{Particle}

-- Particle::default()
unfoldable pub free_particle : Particle
free_particle =
    record {
      active = false;
      source = None;
      birth = 0;
      lifetime = f64 0;
      frequency_hz = f32 0;
      octave = f32 0;
      width = f32 0;
      strength = f32 0;
      attack = f32 0;
      decay_power = 0;
      partials = 0 ∷ 0 ∷ 0 ∷ [];
      retirement = None;
    }

-- ---- retirement
-- p.retirement.get_or_insert(self.sample)
abbrev pub first_retirement : Option ℕ → ℕ → ℕ
first_retirement r now = unwrap_or r now

-- p.source = None; p.retirement.get_or_insert(self.sample);
unfoldable pub retired_of : ℕ → Particle → Particle
retired_of now p =
    record {
      active = p.active;
      source = None;
      birth = p.birth;
      lifetime = p.lifetime;
      frequency_hz = p.frequency_hz;
      octave = p.octave;
      width = p.width;
      strength = p.strength;
      attack = p.attack;
      decay_power = p.decay_power;
      partials = p.partials;
      retirement = Some (first_retirement p.retirement now);
    }

-- if p.active { .. }
unfoldable pub retire_one : ℕ → Particle → Particle
retire_one now p = pick p.active (retired_of now p) p

-- if p.active && p.source == Some(slot) { .. }
unfoldable pub retire_bound_one : ℕ → ℕ → Particle → Particle
retire_bound_one slot now p = pick p.active (pick (option_eq eqb p.source (Some slot)) (retired_of now p) p) p

-- ---- a new pitch: if p.active && p.source == Some(slot) { p.frequency_hz = source.frequency_hz; }
unfoldable pub retuned_of : Float → Particle → Particle
retuned_of hz p =
    record {
      active = p.active;
      source = p.source;
      birth = p.birth;
      lifetime = p.lifetime;
      frequency_hz = hz;
      octave = p.octave;
      width = p.width;
      strength = p.strength;
      attack = p.attack;
      decay_power = p.decay_power;
      partials = p.partials;
      retirement = p.retirement;
    }

unfoldable pub retune_one : ℕ → Float → Particle → Particle
retune_one slot hz p = pick p.active (pick (option_eq eqb p.source (Some slot)) (retuned_of hz p) p) p
