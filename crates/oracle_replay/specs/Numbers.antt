-- The parts of the state as numbers, in the order of `oracle state`: floats by their bits with one NaN, flags and choices as 0, 1, 2, and "none" as all ones. Definitions only.
use Rattle.std.specs.Prelude.{ℕ, List, [], ◌∷◌, eqb, Float, get_or, Option, Some, None}
use Rattle.std.specs.Float.{binary32, binary64}
use Rattle.std.specs.Float.Ieee.{to_bits}
use Rattle.sequences.specs.Pick.{pick}
use Rattle.big_endian.specs.Bytes.{flag_of}
use Rattle.pool.specs.declared.Particle.{Particle}
use Rattle.settings.specs.declared.Config.{Config}
use Rattle.settings.specs.ByNumber.{shape_number, direction_number}
use Rattle.sources.specs.declared.Source.{Source}
use Rattle.state.specs.declared.Engine.{Engine}
use Rattle.state.specs.declared.Prepared.{Prepared}
use Rattle.timing.specs.declared.SprinkleStream.{SprinkleStream}

abbrev pub none_word : ℕ
none_word = 18446744073709551615

abbrev pub slot_of : Option ℕ → ℕ
slot_of None = none_word
slot_of (Some n) = n

abbrev pub retired_word : Option ℕ → ℕ
retired_word None = none_word
retired_word (Some sample) = sample

abbrev bits32 : Float → ℕ
bits32 x = to_bits binary32 x

abbrev bits64 : Float → ℕ
bits64 x = to_bits binary64 x

abbrev pub counts_of : Engine → List ℕ
counts_of e =
    e.clock.sample
    ∷ bits64 e.clock.phase
    ∷ bits64 e.clock.phase_offset
    ∷ e.next.opportunity
    ∷ e.next.immediate_index
    ∷ slot_of e.next.last_source
    ∷ flag_of e.next.note_input_present
    ∷ e.tally.attempts
    ∷ bits32 e.activity
    ∷ e.tally.births
    ∷ e.tally.dropped
    ∷ e.tally.decision_hash
    ∷ e.tally.held
    ∷ []

abbrev pub config_words : Config → List ℕ
config_words c =
    flag_of c.enabled
    ∷ shape_number c.shape
    ∷ direction_number c.direction
    ∷ bits32 c.rate_hz
    ∷ bits32 c.size_octaves
    ∷ bits32 c.phase
    ∷ flag_of c.scheduled
    ∷ flag_of c.sync
    ∷ c.hop_samples
    ∷ c.partials
    ∷ bits32 c.partial_rolloff_db
    ∷ bits32 c.attack_ms
    ∷ bits32 c.release_ms
    ∷ []

abbrev pub prepared_words : Prepared → List ℕ
prepared_words p = bits64 p.sample_rate ∷ bits64 p.phase_alpha ∷ []

-- the log of a harmonic, its weight at the start, and its weight now
abbrev pub harmonic_words : Float → Float → Float → List ℕ
harmonic_words log first now = bits32 log ∷ bits32 first ∷ bits32 now ∷ []

abbrev pub stream_words : SprinkleStream → List ℕ
stream_words s = s.index ∷ bits64 s.next ∷ flag_of s.emit ∷ []

abbrev pub source_words : Source → List ℕ
source_words s = bits32 s.frequency_hz ∷ bits32 s.strength ∷ flag_of s.eligible ∷ []

abbrev pub particle_of : Particle → List ℕ
particle_of p =
    flag_of p.active
    ∷ slot_of p.source
    ∷ p.birth
    ∷ bits64 p.lifetime
    ∷ bits32 p.frequency_hz
    ∷ bits32 p.octave
    ∷ bits32 p.width
    ∷ bits32 p.strength
    ∷ bits32 p.attack
    ∷ p.decay_power
    ∷ get_or p.partials 0 0
    ∷ get_or p.partials 1 0
    ∷ get_or p.partials 2 0
    ∷ retired_word p.retirement
    ∷ []
