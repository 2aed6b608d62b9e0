-- Which places are held, how many, and the lowest free one, line by line as the Rust has it. A place is free where its particle is not active. Definitions only.
use Rattle.std.specs.Prelude.{ℕ, Bool, not, List, Option, Some, None, nat_lt}
use Rattle.sequences.specs.Walk.{count}
use Rattle.sequences.specs.Pick.{pick}
use Rattle.sequences.specs.First.{first}
use Rattle.pool.specs.declared.Particle.{Particle}

abbrev pub is_held : ℕ → Particle → Bool
is_held i p = p.active

abbrev pub is_free : ℕ → Particle → Bool
is_free i p = not p.active

-- self.particles.iter().filter(|p| p.active).count()
abbrev pub active_count : List Particle → ℕ
active_count = count is_held

-- the lowest free place, or the number of places
abbrev pub free_place : List Particle → ℕ
free_place = first is_free

-- self.particles.iter_mut().find(|p| !p.active)
unfoldable pub vacant_place : List Particle → Option ℕ
vacant_place ps = pick (nat_lt (free_place ps) 64) (Some (free_place ps)) None
