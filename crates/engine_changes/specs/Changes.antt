-- The calls that change settings, the note input and the place in the film, line by line as the Rust has them; refusals as 01 adds them. Definitions only.
use Rattle.std.specs.Prelude.{ℕ, Bool, true, false, not, List, [], ◌∷◌, map, ◌==◌, slice_index_or, Float, None, Ok, Err}
use Rattle.std.specs.Float.{binary64}
use Rattle.std.specs.Float.Ieee.{to_unsigned, le, eq}
use Rattle.std.specs.Float.Ieee.Scale.{finite}
use Rattle.floats.specs.Word.{grown}
use Rattle.sequences.specs.Pick.{pick}
use Rattle.floats.specs.Names.{f64}
use Rattle.floats.specs.Remainder.{rem_euclid}
use Rattle.floats.specs.Whole.{floor}
use Rattle.pool.specs.Pool.{retire_one}
use Rattle.refusals.specs.Numbers.{Answer}
use Rattle.settings.specs.declared.Config.{Config}
use Rattle.settings.specs.declared.Shape.{Shape}
use Rattle.settings.specs.declared.Shape.TheVariants.{Sprinkle, Cloud}
use Rattle.settings.specs.Settings.{is_sprinkle, checked_of}
use Rattle.settings.specs.Mending.{mended_of}
use Rattle.sources.specs.Sources.{same_flag}
use Rattle.timing.specs.declared.SprinkleStream.{SprinkleStream}
use Rattle.timing.specs.Streams.{prepared_stream, aligned_all, reference_of}
use Rattle.state.specs.declared.Clock.{Clock}
use Rattle.state.specs.declared.Done.{Done}
use Rattle.state.specs.declared.Engine.{Engine}
use Rattle.state.specs.declared.Next.{Next}
use Rattle.state.specs.State.{taken, refused, with_clock, with_config, with_next, with_particles, with_streams, with_weights, past_stream, reference_now}
use Rattle.state.specs.Make.{weights_of}

-- fn retire_all
unfoldable pub retired_all : Engine → Engine
retired_all e = with_particles e (map (retire_one e.clock.sample) e.particles)

-- fn align_streams
unfoldable pub aligned : Engine → Engine
aligned e = with_streams e (aligned_all (reference_now e.clock) e.config.sync)

-- ---- configure
abbrev pub same_shape : Shape → Shape → Bool
same_shape Sprinkle b = is_sprinkle b
same_shape Cloud b = not (is_sprinkle b)

-- if config.partial_rolloff_db != self.config.partial_rolloff_db { self.partial_weights = .. }
unfoldable pub reweighed : Engine → Config → Engine
reweighed e c =
    pick (eq c.partial_rolloff_db e.config.partial_rolloff_db) e
    (with_weights e (weights_of e.prepared.partial_logs c.partial_rolloff_db))

-- if config.enabled != self.config.enabled || config.shape != self.config.shape { self.retire_all(); }
unfoldable pub same_kind : Config → Config → Bool
same_kind old c = pick (same_shape old.shape c.shape) (same_flag old.enabled c.enabled) false

unfoldable pub switched : Engine → Config → Engine
switched e c = pick (same_kind e.config c) e (retired_all e)

-- if self.sample == 0 { self.phase_offset = config.phase as f64; }
abbrev pub offset_to : Clock → Float → Clock
offset_to k x = record { sample = k.sample; phase = k.phase; phase_offset = x }

unfoldable pub offset : Engine → Float → Engine
offset e phase = pick (e.clock.sample == 0) (with_clock e (offset_to e.clock phase)) e

-- config.shape == Shape::Sprinkle && (self.config.shape != config.shape || (!self.config.enabled && config.enabled))
unfoldable pub enters : Config → Config → Bool
enters old c = pick (is_sprinkle c.shape) (pick (is_sprinkle old.shape) (pick old.enabled false c.enabled) true) false

-- for (lane, stream) in self.streams.iter_mut().enumerate() { stream.prepare(lane, config.sync); }
unfoldable pub prepared_at : List SprinkleStream → ℕ → Bool → SprinkleStream
prepared_at streams lane sync = prepared_stream (slice_index_or streams lane past_stream).index lane sync

unfoldable pub prepared_all : List SprinkleStream → Bool → List SprinkleStream
prepared_all streams sync = prepared_at streams 0 sync ∷ prepared_at streams 1 sync ∷ prepared_at streams 2 sync ∷ []

-- if enter_sprinkle { self.align_streams(); } else if sync_changed { .. }, of the engine with its new settings
unfoldable pub restarted : Engine → Config → Engine
restarted e old =
    pick (enters old e.config) (aligned e)
    (pick (same_flag old.sync e.config.sync) e (with_streams e (prepared_all e.streams e.config.sync)))

unfoldable pub configured_to : Engine → Config → Engine
configured_to e c = restarted (with_config (offset (switched (reweighed e c) c) c.phase) c) e.config

abbrev pub answered_by : Answer → Engine → Config → Done
answered_by (Ok tt) e c = taken (configured_to e (mended_of c))
answered_by (Err r) e c = refused r e

unfoldable pub configured_of : Engine → Config → Done
configured_of e c = answered_by (checked_of c) e c

-- ---- set_note_input_present
abbrev pub with_notes : Next → Bool → Next
with_notes n x =
    record {
      opportunity = n.opportunity;
      immediate_index = n.immediate_index;
      last_source = n.last_source;
      note_input_present = x;
    }

unfoldable pub notes_of : Engine → Bool → Engine
notes_of e present = with_next e (with_notes e.next present)

-- ---- seek
-- if cycles.is_finite() { cycles.rem_euclid(1_000_000_000.0) } else { 0.0 }
unfoldable pub sought_phase : Float → Float
sought_phase cycles = pick (finite cycles) (rem_euclid binary64 cycles (f64 0x41cdcd6500000000)) (f64 0)

-- self.opportunity = self.phase.floor() as u64; .. if self.timing_reference() <= self.phase + self.phase_offset { self.opportunity += 1; }
unfoldable pub sought_opportunity : Float → Float → ℕ
sought_opportunity phase reference =
    let opportunity = to_unsigned 64 (floor binary64 phase) in
    pick (le (reference_of opportunity) reference) (grown opportunity) opportunity

-- self.phase_offset = self.config.phase as f64
abbrev pub sought_clock : Engine → Float → Clock
sought_clock e cycles = record { sample = e.clock.sample; phase = sought_phase cycles; phase_offset = e.config.phase }

-- self.immediate_index = 0; self.last_source = None;
abbrev pub sought_next : Engine → Clock → Next
sought_next e k =
    record {
      opportunity = sought_opportunity k.phase (reference_now k);
      immediate_index = 0;
      last_source = None;
      note_input_present = e.next.note_input_present;
    }

unfoldable pub sought_of : Engine → Float → Engine
sought_of e cycles =
    let k = sought_clock e cycles in
    aligned (with_next (with_clock (retired_all e) k) (sought_next e k))
