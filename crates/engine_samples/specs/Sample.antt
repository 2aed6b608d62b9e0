-- One sample of `advance`: its births, then the clock, line by line as the Rust has them. Definitions only.
use Rattle.std.specs.Prelude.{ℕ, cond, slice_index_or, slice_set, Float, None}
use Rattle.std.specs.Float.{binary64}
use Rattle.std.specs.Float.Ieee.{to_unsigned, lt, le}
use Rattle.floats.specs.Word.{grown}
use Rattle.sequences.specs.Pick.{pick}
use Rattle.floats.specs.Names.{f64, add64, sub64, mul64, div64}
use Rattle.floats.specs.Choose.{max}
use Rattle.floats.specs.Remainder.{rem_euclid}
use Rattle.floats.specs.Whole.{floor}
use Rattle.draws.specs.Draws.{key_of}
use Rattle.settings.specs.declared.Shape.{Shape}
use Rattle.settings.specs.declared.Shape.TheVariants.{Sprinkle, Cloud}
use Rattle.timing.specs.declared.SprinkleStream.{SprinkleStream}
use Rattle.timing.specs.Streams.{larger, moved_of, reference_of}
use Rattle.state.specs.declared.Engine.{Engine}
use Rattle.state.specs.declared.Next.{Next}
use Rattle.state.specs.State.{with_clock, with_next, with_streams, past_stream, reference_now}
use Rattle.births.specs.Birth.{born_of}

-- ---- Sprinkle
-- self.streams[lane].index = ..; self.streams[lane].prepare(..)
abbrev pub moved : Engine → ℕ → Float → SprinkleStream → Engine
moved e lane reference s = with_streams e (slice_set e.streams lane (moved_of s.index lane reference e.config.sync))

-- if reference < stream.next { break; } .. if stream.emit && self.config.enabled { self.birth(sprinkle_key(lane, stream.index), None); }
abbrev pub tried_with : Engine → ℕ → Float → SprinkleStream → Engine
tried_with e lane reference s =
    let out = moved e lane reference s in
    pick (lt reference s.next) e (pick s.emit (pick e.config.enabled (born_of out (key_of lane s.index) None) out) out)

unfoldable pub tried_of : Engine → ℕ → Float → Engine
tried_of e lane reference = tried_with e lane reference (slice_index_or e.streams lane past_stream)

-- for _ in 0..2: after a `break` the second try does nothing either
unfoldable pub lane_of : Engine → ℕ → Float → Engine
lane_of e lane reference = tried_of (tried_of e lane reference) lane reference

-- for lane in 0..SPRINKLE_STREAMS
unfoldable pub lanes_of : Engine → Float → Engine
lanes_of e reference = lane_of (lane_of (lane_of e 0 reference) 1 reference) 2 reference

-- ---- Cloud
-- (index + 1).max(reference.floor().max(0.0) as u64)
unfoldable pub opportunity_after : ℕ → Float → ℕ
opportunity_after index reference = larger (grown index) (to_unsigned 64 (max (floor binary64 reference) (f64 0)))

abbrev pub with_opportunity : Next → ℕ → Next
with_opportunity n x =
    record {
      opportunity = x;
      immediate_index = n.immediate_index;
      last_source = n.last_source;
      note_input_present = n.note_input_present;
    }

-- else if reference >= self.timing_reference() { .. if self.config.enabled { self.birth(index, None); } }
unfoldable pub cloud_of : Engine → Float → Engine
cloud_of e reference =
    let index = e.next.opportunity in
    let out = with_next e (with_opportunity e.next (opportunity_after index reference)) in
    pick (le (reference_of index) reference) (pick e.config.enabled (born_of out index None) out) e

-- ---- one sample
unfoldable pub by_shape_of : Shape → Engine → Float → Engine
by_shape_of Sprinkle e reference = lanes_of e reference
by_shape_of Cloud e reference = cloud_of e reference

-- births first: if self.config.scheduled { .. }
unfoldable pub delivered_of : Engine → Engine
delivered_of e = pick e.config.scheduled (by_shape_of e.config.shape e (reference_now e.clock)) e

-- let difference = (self.config.phase as f64 - self.phase_offset + 0.5).rem_euclid(1.0) - 0.5; self.phase_offset += difference * alpha;
unfoldable pub glided_of : Float → Float → Float → Float
glided_of offset phase alpha =
    let half = f64 0x3fe0000000000000 in
    let difference = sub64 (rem_euclid binary64 (add64 (sub64 phase offset) half) (f64 0x3ff0000000000000)) half in
    add64 offset (mul64 difference alpha)

-- then the phase (only when scheduled: self.phase += step), the offset and the count
unfoldable pub ticked_of : Engine → Engine
ticked_of e =
    let k = e.clock in
    let step = div64 e.config.rate_hz e.prepared.sample_rate in
    with_clock e
    (record {
      sample = grown k.sample;
      phase = cond e.config.scheduled (add64 k.phase step) k.phase;
      phase_offset = glided_of k.phase_offset e.config.phase e.prepared.phase_alpha;
    })

unfoldable pub stepped_of : Engine → Engine
stepped_of e = ticked_of (delivered_of e)
