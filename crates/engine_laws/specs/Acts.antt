-- The calls as acts: what a call does, one step after the other, so that every moment of a run has a name, between two births of one sample too.
-- A refused call has no acts, but for a trigger on a missing slot, which still uses up its index. Definitions only.
use Rattle.std.specs.Prelude.{ℕ, zero, suc, ◌+◌, ◌^◌, Bool, List, [], ◌∷◌, ◌++◌, map, eqb, leb, ltb, get_or, set, Float, Ok, Err, Option, Some, None}
use Rattle.std.specs.Int.Bits.{bit_xor}
use Rattle.std.specs.Float.Ieee.{lt, le, eq}
use Rattle.floats.specs.Names.{Single, Double}
use Rattle.floats.specs.Word.{grown}
use Rattle.sequences.specs.Pick.{pick}
use Rattle.sequences.specs.Times.{iterate}
use Rattle.draws.specs.Draws.{key_of}
use Rattle.pool.specs.Pool.{retire_bound_one, retune_one}
use Rattle.refusals.specs.Numbers.{Answer}
use Rattle.settings.specs.declared.Config.{Config}
use Rattle.settings.specs.declared.Shape.{Shape}
use Rattle.settings.specs.declared.Shape.TheVariants.{Sprinkle, Cloud}
use Rattle.settings.specs.Settings.{checked_of}
use Rattle.settings.specs.Mending.{mended_of}
use Rattle.sources.specs.declared.Source.{Source}
use Rattle.sources.specs.Sources.{no_source, same, same_flag, is_pitched, released_of, max_sources}
use Rattle.timing.specs.declared.SprinkleStream.{SprinkleStream}
use Rattle.timing.specs.Streams.{aligned_all, moved_of, reference_of}
use Rattle.state.specs.declared.Clock.{Clock}
use Rattle.state.specs.declared.Engine.{Engine}
use Rattle.state.specs.declared.Next.{Next}
use Rattle.state.specs.State.{with_clock, with_config, with_next, with_particles, with_streams, with_weights, past_source, past_stream, reference_now}
use Rattle.state.specs.Make.{weights_of}
use Rattle.births.specs.Birth.{born_of}
use Rattle.engine_samples.specs.Sample.{tried_of, lane_of, opportunity_after, with_opportunity, delivered_of, ticked_of, stepped_of}
use Rattle.engine.specs.Advance.{advanced_of}
use Rattle.engine_changes.specs.Changes.{retired_all, same_kind, reweighed, switched, offset, offset_to, enters, prepared_all, with_notes, sought_clock, sought_next, configured_of, notes_of, sought_of}
use Rattle.engine_sources.specs.Slots.{with_source, set_source_of, retire_source_of, release_source_of}
use Rattle.engine_triggers.specs.Triggers.{with_index, is_permitted, reserved_of, triggered_by, triggered_of}
use Rattle.frame.specs.Frame.{activity_of, accepted}
use Rattle.frame.specs.Call.{held_of, freed_of, renewed_of, framed_of}

-- ---- acts
pub data Act : Type 0 where
  -- an index, and a trigger's own slot (`None` for none)
  birth : ℕ → Option ℕ → Act
  -- every particle, or those that follow a slot
  retire : Act
  retire_bound : ℕ → Act
  -- those that follow a slot, to a frequency
  retune : ℕ → Float → Act
  -- an accepted frame, so many seconds after the last
  frame : Float → Act
  -- one group of the state
  source : ℕ → Source → Act
  streams : List SprinkleStream → Act
  next : Next → Act
  clock : Clock → Act
  weights : List Float → Act
  settings : Config → Act

unfoldable pub act : Engine → Act → Engine
act e (birth index own) = born_of e index own
act e retire = retired_all e
act e (retire_bound slot) = with_particles e (map (retire_bound_one slot e.clock.sample) e.particles)
act e (retune slot hz) = with_particles e (map (retune_one slot hz) e.particles)
act e (frame seconds) = renewed_of e (held_of e) (freed_of e) (activity_of e.activity e.config.enabled seconds)
act e (source slot s) = with_source e slot s
act e (streams ss) = with_streams e ss
act e (next n) = with_next e n
act e (clock k) = with_clock e k
act e (weights ws) = with_weights e ws
act e (settings c) = with_config e c

unfoldable pub perform : Engine → List Act → Engine
unfolding act
perform e [] = e
perform e (a ∷ rest) = perform (act e a) rest

-- one act where the test holds
abbrev pub only : Bool → Act → List Act
only t a = pick t (a ∷ []) []

-- ---- a sample
unfoldable pub tried_acts : Engine → ℕ → Float → List Act
tried_acts e lane reference =
    let s = get_or e.streams lane past_stream in
    pick (lt reference s.next) []
    (streams (set e.streams lane (moved_of s.index lane reference e.config.sync)) ∷ pick s.emit (only e.config.enabled (birth (key_of lane s.index) None)) [])

unfoldable pub lane_acts : Engine → ℕ → Float → List Act
lane_acts e lane reference = tried_acts e lane reference ++ tried_acts (tried_of e lane reference) lane reference

unfoldable pub shape_acts : Shape → Engine → Float → List Act
shape_acts Sprinkle e reference =
    let one = lane_of e 0 reference in
    lane_acts e 0 reference ++ (lane_acts one 1 reference ++ lane_acts (lane_of one 1 reference) 2 reference)
shape_acts Cloud e reference =
    let index = e.next.opportunity in
    pick (le (reference_of index) reference)
    (next (with_opportunity e.next (opportunity_after index reference)) ∷ only e.config.enabled (birth index None)) []

-- births first, then the clock
unfoldable pub deliver_acts : Engine → List Act
deliver_acts e = pick e.config.scheduled (shape_acts e.config.shape e (reference_now e.clock)) []

unfoldable pub sample_acts : Engine → List Act
sample_acts e = deliver_acts e ++ (clock (ticked_of (delivered_of e)).clock ∷ [])

unfoldable pub advance_acts : ℕ → Engine → List Act
advance_acts zero e = []
advance_acts (suc n) e = advance_acts n e ++ sample_acts (iterate stepped_of n e)

-- ---- configure, of mended settings
unfoldable pub restart_acts : Engine → Config → List Act
restart_acts e old =
    pick (enters old e.config) (streams (aligned_all (reference_now e.clock) e.config.sync) ∷ [])
    (pick (same_flag old.sync e.config.sync) [] (streams (prepared_all e.streams e.config.sync) ∷ []))

unfoldable pub weigh_acts : Engine → Config → List Act
weigh_acts e c =
    pick (eq c.partial_rolloff_db e.config.partial_rolloff_db) [] (weights (weights_of e.prepared.partial_logs c.partial_rolloff_db) ∷ [])

unfoldable pub switch_acts : Engine → Config → List Act
switch_acts e c = pick (same_kind e.config c) [] (retire ∷ [])

unfoldable pub offset_acts : Engine → Float → List Act
offset_acts e phase = only (eqb e.clock.sample 0) (clock (offset_to e.clock phase))

unfoldable pub configure_acts : Engine → Config → List Act
configure_acts e c =
    let weighed = reweighed e c in
    let kind = switched weighed c in
    let moved = offset kind c.phase in
    weigh_acts e c ++ (switch_acts weighed c ++ (offset_acts kind c.phase ++ (settings c ∷ restart_acts (with_config moved c) e.config)))

abbrev pub checked_acts : Answer → Engine → Config → List Act
checked_acts (Ok tt) e c = configure_acts e (mended_of c)
checked_acts (Err r) e c = []

-- ---- triggers
unfoldable pub trigger_acts : Engine → ℕ → ℕ → List Act
trigger_acts e slot index = pick (ltb slot max_sources) (only (is_permitted e slot) (birth (bit_xor index (2 ^ 63)) (Some slot))) []

abbrev pub reserve_act : Engine → Act
reserve_act e = next (with_index e.next (grown e.next.immediate_index))

-- ---- the calls of a run
pub data Call : Type 0 where
  configure : Config → Call
  note_input : Bool → Call
  set_source : ℕ → Source → Call
  retire_source : ℕ → Call
  release_source : ℕ → Call
  trigger : ℕ → Call
  reserve : Call
  reserved : ℕ → ℕ → Call
  seek : Float → Call
  advance : ℕ → Call
  take_frame : Float → Float → Call

-- the settings' floats are f32s
pub record Singles (c : Config) : Type 0 where
  pub rate : Single c.rate_hz
  pub size : Single c.size_octaves
  pub phase : Single c.phase
  pub rolloff : Single c.partial_rolloff_db
  pub attack : Single c.attack_ms
  pub release : Single c.release_ms

-- what the code's types say of the floats that a call brings into the state: they are f32s, and a seek's an f64. The width of a frame's bins stays out of it.
abbrev pub Typed : Call → Type 0
Typed (configure c) = Singles c
Typed (set_source slot s) = Single s.frequency_hz × Single s.strength
Typed (take_frame bin_hz seconds) = Single seconds
Typed (note_input present) = Unit {0}
Typed (retire_source slot) = Unit {0}
Typed (release_source slot) = Unit {0}
Typed (trigger slot) = Unit {0}
Typed reserve = Unit {0}
Typed (reserved slot index) = Unit {0}
Typed (seek cycles) = Double cycles
Typed (advance n) = Unit {0}

unfoldable pub acts_of : Engine → Call → List Act
acts_of e (configure c) = checked_acts (checked_of c) e c
acts_of e (note_input present) = next (with_notes e.next present) ∷ []
acts_of e (set_source slot s) =
    pick (ltb slot max_sources)
    (pick (same (get_or e.sources slot past_source) s) [] (source slot s ∷ only (is_pitched s.frequency_hz) (retune slot s.frequency_hz))) []
acts_of e (retire_source slot) = pick (ltb slot max_sources) (source slot no_source ∷ retire_bound slot ∷ []) []
acts_of e (release_source slot) = only (ltb slot max_sources) (source slot (released_of (get_or e.sources slot past_source)))
acts_of e (trigger slot) = reserve_act e ∷ trigger_acts (reserved_of e).engine slot e.next.immediate_index
acts_of e reserve = reserve_act e ∷ []
acts_of e (reserved slot index) = trigger_acts e slot index
acts_of e (seek cycles) =
    let k = sought_clock e cycles in
    retire ∷ clock k ∷ next (sought_next e k) ∷ streams (aligned_all (reference_now k) e.config.sync) ∷ []
acts_of e (advance n) = pick (leb (e.clock.sample + n) (2 ^ 40)) (advance_acts n e) []
acts_of e (take_frame bin_hz seconds) = only (accepted seconds) (frame seconds)

-- the engine after a call, as its contract has it
unfoldable pub applied : Engine → Call → Engine
applied e (configure c) = (configured_of e c).engine
applied e (note_input present) = notes_of e present
applied e (set_source slot s) = (set_source_of e slot s).engine
applied e (retire_source slot) = (retire_source_of e slot).engine
applied e (release_source slot) = (release_source_of e slot).engine
applied e (trigger slot) = (triggered_of e slot).engine
applied e reserve = (reserved_of e).engine
applied e (reserved slot index) = (triggered_by e slot index).engine
applied e (seek cycles) = sought_of e cycles
applied e (advance n) = (advanced_of e n).engine
applied e (take_frame bin_hz seconds) = (framed_of e bin_hz seconds).engine
