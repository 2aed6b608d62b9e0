-- One birth, line by line as the Rust's `birth`. Definitions only.
use Rattle.std.specs.Prelude.{ℕ, Bool, ◌&&◌, List, ◌==◌, nat_lt, slice_index_or, slice_set, Float, Option, Some, None, is_none}
use Rattle.std.specs.Option.{option_or}
use Rattle.sources.specs.Sources.{max_sources}
use Rattle.floats.specs.Word.{grown}
use Rattle.sequences.specs.Pick.{pick}
use Rattle.draws.specs.Draws.{random_of}
use Rattle.births.specs.declared.voices.Voice.{Voice}
use Rattle.births.specs.Voices.{free_voice_of, source_voice_of}
use Rattle.births.specs.Births.{newborn_of}
use Rattle.pool.specs.declared.Particle.{Particle}
use Rattle.settings.specs.declared.Shape.{Shape}
use Rattle.sources.specs.declared.Source.{Source}
use Rattle.pool.specs.Vacancies.{free_place}
use Rattle.sources.specs.Choosing.{chosen_of}
use Rattle.state.specs.declared.Engine.{Engine}
use Rattle.state.specs.declared.Next.{Next}
use Rattle.state.specs.declared.Tally.{Tally}
use Rattle.state.specs.State.{with_next, with_particles, with_tally, past_source}
use Rattle.state.specs.Tallies.{dropped_one, born_one}

-- ---- the source: the trigger's own, or by the draw of stream 1
-- source.or_else(..)
abbrev pub chosen_by : List Source → Option ℕ → ℕ → Option ℕ → Option ℕ
chosen_by sources last index own = option_or own (chosen_of last sources (random_of index 1))

unfoldable pub chosen_for : Engine → ℕ → Option ℕ → Option ℕ
chosen_for e index own = chosen_by e.sources e.next.last_source index own

-- self.last_source = chosen
abbrev pub with_last : Next → Option ℕ → Next
with_last n slot =
    record {
      opportunity = n.opportunity;
      immediate_index = n.immediate_index;
      last_source = slot;
      note_input_present = n.note_input_present;
    }

-- ---- the attempts
-- self.attempts += 1
abbrev pub tried_one : Tally → Tally
tried_one t = record { attempts = grown t.attempts; births = t.births; dropped = t.dropped; decision_hash = t.decision_hash; held = t.held }

-- ---- the new particle
-- source.map_or_else(|| .., |s| ..)
abbrev pub voice_by : List Source → Shape → Float → Float → ℕ → Option ℕ → Voice
voice_by sources shape phase rate index None = free_voice_of shape index phase rate
voice_by sources shape phase rate index (Some slot) =
    pick (nat_lt slot max_sources) (source_voice_of slot (slice_index_or sources slot past_source)) (free_voice_of shape index phase rate)

unfoldable pub voice_for : Engine → ℕ → Option ℕ → Voice
voice_for e index slot = voice_by e.sources e.config.shape e.clock.phase e.prepared.sample_rate index slot

unfoldable pub newborn_for : Engine → ℕ → Option ℕ → Particle
newborn_for e index slot = newborn_of index (voice_for e index slot) e.config e.prepared.sample_rate e.clock.sample e.partial_weights

-- ---- the place: the lowest free one; where there is none, self.dropped += 1
abbrev pub settled_at : Engine → ℕ → Particle → ℕ → Engine
settled_at e place p index = with_tally (with_particles e (slice_set e.particles place p)) (born_one e.tally index e.clock.sample p)

unfoldable pub admitted_of : Engine → ℕ → Option ℕ → Engine
admitted_of e index slot =
    let place = free_place e.particles in
    pick (nat_lt place 64) (settled_at e place (newborn_for e index slot) index) (with_tally e (dropped_one e.tally))

-- source.is_none() && self.note_input_present
unfoldable pub is_barred : Option ℕ → Bool → Bool
is_barred slot notes = is_none slot && notes

-- if self.attempts == MAX_BIRTH_ATTEMPTS { self.dropped += 1; return; } self.attempts += 1; if .. { return; }
unfoldable pub attempted_of : Engine → ℕ → Option ℕ → Engine
attempted_of e index slot =
    let out = with_tally e (tried_one e.tally) in
    pick (e.tally.attempts == 64) (with_tally e (dropped_one e.tally))
    (pick (is_barred slot e.next.note_input_present) out (admitted_of out index slot))

-- the choice is stored before anything can turn the birth away
abbrev pub born_as : Engine → ℕ → Option ℕ → Engine
born_as e index slot = attempted_of (with_next e (with_last e.next slot)) index slot

unfoldable pub born_of : Engine → ℕ → Option ℕ → Engine
born_of e index own = born_as e index (chosen_for e index own)
