-- The calls on a source slot, line by line as the Rust has them; refusals as 01 adds them. Definitions only.
use Rattle.std.specs.Prelude.{ℕ, map, ltb, get_or, set}
use Rattle.sequences.specs.Pick.{pick}
use Rattle.pool.specs.Pool.{retire_bound_one, retune_one}
use Rattle.refusals.specs.declared.Refusal.TheVariants.{Slot}
use Rattle.sources.specs.declared.Source.{Source}
use Rattle.sources.specs.Sources.{no_source, same, is_pitched, released_of, max_sources}
use Rattle.state.specs.declared.Done.{Done}
use Rattle.state.specs.declared.Engine.{Engine}
use Rattle.state.specs.State.{taken, refused, with_particles, with_sources, past_source}

-- a slot from `max_sources` up is refused
abbrev pub slotted : ℕ → Engine → Engine → Done
slotted slot e out = pick (ltb slot max_sources) (taken out) (refused Slot e)

abbrev pub with_source : Engine → ℕ → Source → Engine
with_source e slot s = with_sources e (set e.sources slot s)

-- self.sources[slot] = source; if source.frequency_hz.is_finite() && source.frequency_hz > 0.0 { .. }
unfoldable pub supplied_of : Engine → ℕ → Source → Engine
supplied_of e slot s =
    pick (is_pitched s.frequency_hz) (with_particles (with_source e slot s) (map (retune_one slot s.frequency_hz) e.particles))
    (with_source e slot s)

-- if self.sources[slot] == source { return; }
unfoldable pub set_source_of : Engine → ℕ → Source → Done
set_source_of e slot s = slotted slot e (pick (same (get_or e.sources slot past_source) s) e (supplied_of e slot s))

unfoldable pub retire_source_of : Engine → ℕ → Done
retire_source_of e slot =
    slotted slot e (with_particles (with_source e slot no_source) (map (retire_bound_one slot e.clock.sample) e.particles))

unfoldable pub release_source_of : Engine → ℕ → Done
release_source_of e slot = slotted slot e (with_source e slot (released_of (get_or e.sources slot past_source)))
