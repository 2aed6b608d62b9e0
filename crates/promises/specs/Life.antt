-- The terms of demand 3: what is told of one particle, act by act, and what it means to hold a place. Definitions only.
use Rattle.std.specs.Prelude.{ℕ, ◌≡◌, Bool, true, not, ◌&&◌, ◌||◌, List, [], ◌∷◌, eqb, pos, get_or, Float, Option, Some, None, is_none}
use Rattle.std.specs.Option.{option_eq}
use Rattle.std.specs.Float.{binary64}
use Rattle.std.specs.Float.Ieee.{le, of_int}
use Rattle.sequences.specs.Pick.{pick}
use Rattle.floats.specs.Names.{f64, div64}
use Rattle.pool.specs.declared.Particle.{Particle}
use Rattle.pool.specs.Pool.{free_particle}
use Rattle.state.specs.declared.Engine.{Engine}
use Rattle.births.specs.Birth.{chosen_for, newborn_for}
use Rattle.frame.specs.Freed.{elapsed_of}
use Rattle.engine_laws.specs.Acts.{Act, birth, retire, retire_bound, retune, frame, source, streams, next, clock, weights, settings, act}

-- what stands at place i
abbrev pub place : Engine → ℕ → Particle
place e i = get_or e.particles i free_particle

abbrev pub Held : Engine → ℕ → Type 0
Held e i = (place e i).active ≡ true

-- ---- a birth
-- it has no source while note input is present: not permitted
abbrev pub permitted : Engine → ℕ → Option ℕ → Bool
permitted e index own = not (is_none (chosen_for e index own) && e.next.note_input_present)

abbrev pub newborn : Engine → ℕ → Option ℕ → Particle
newborn e index own = newborn_for e index (chosen_for e index own)

-- ---- a life
-- Of one particle: the sample of its birth, its lifetime, the slot whose note retires it (`None` for none), and its first retirement.
pub record Life : Type 0 where
  pub birth : ℕ
  pub lifetime : Float
  pub source : Option ℕ
  pub retired : Option ℕ

abbrev pub life_of : Particle → Life
life_of p = record { birth = p.birth; lifetime = p.lifetime; source = p.source; retired = p.retirement }

pub data Fate : Type 0 where
  living : Life → Fate
  freed : Fate

-- (sample - since) as f64 / rate
abbrev pub seconds_since : Engine → ℕ → Float
seconds_since e since = div64 (of_int binary64 (pos (elapsed_of since e.clock.sample))) e.prepared.sample_rate

abbrev pub age : Engine → Life → Float
age e l = seconds_since e l.birth

-- retirement: (sample - retired at) as f64 / rate / 0.02
abbrev pub faded : Engine → Option ℕ → Float
faded e None = f64 0
faded e (Some since) = div64 (seconds_since e since) (f64 0x3f947ae147ae147b)

-- age >= lifetime or retirement >= 1.0
unfoldable pub due : Engine → Life → Bool
due e l = le l.lifetime (age e l) || le (f64 0x3ff0000000000000) (faded e l.retired)

-- the first retirement stands
abbrev pub first_retired : Option ℕ → ℕ → Option ℕ
first_retired None now = Some now
first_retired (Some since) now = Some since

abbrev pub retired_at : ℕ → Life → Life
retired_at now l = record { birth = l.birth; lifetime = l.lifetime; source = None; retired = first_retired l.retired now }

-- One act: an accepted frame frees a particle that is due, a retirement marks it, and no other act does anything to it.
unfoldable pub told : Engine → Act → Life → Fate
told e (frame seconds) l = pick (due e l) freed (living l)
told e retire l = living (retired_at e.clock.sample l)
told e (retire_bound slot) l = living (pick (option_eq eqb l.source (Some slot)) (retired_at e.clock.sample l) l)
told e (birth index own) l = living l
told e (retune slot hz) l = living l
told e (source slot s) l = living l
told e (streams ss) l = living l
told e (next n) l = living l
told e (clock k) l = living l
told e (weights ws) l = living l
told e (settings c) l = living l

abbrev pub lives_on : Fate → (Life → Fate) → Fate
lives_on freed after = freed
lives_on (living l) after = after l

-- all the acts: freed at the first frame that finds it due
unfoldable pub story : Engine → List Act → Life → Fate
unfolding told act
story e [] l = living l
story e (a ∷ rest) l = lives_on (told e a l) (story (act e a) rest)
