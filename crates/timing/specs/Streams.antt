-- Sprinkle's streams and the Cloud's timing reference, line by line as the Rust has them, on words of 64 bits. Definitions only.
use Rattle.std.specs.Prelude.{ℕ, ◌*◌, ◌/◌, Bool, List, [], ◌∷◌, pos, nat_lt, Float}
use Rattle.std.specs.Float.{binary64}
use Rattle.std.specs.Float.Ieee.{of_int, to_unsigned, le}
use Rattle.sequences.specs.Pick.{pick}
use Rattle.floats.specs.Names.{f64, add64, sub64, mul64, div64, zero64}
use Rattle.floats.specs.Choose.{max}
use Rattle.floats.specs.Whole.{floor}
use Rattle.floats.specs.Word.{product, grown}
use Rattle.draws.specs.Draws.{random_of, key_of}
use Rattle.timing.specs.Starts.{half_cycle, emit_of, next_of}
use Rattle.timing.specs.declared.SprinkleStream.{SprinkleStream}

-- ---- SprinkleStream::prepare
-- let key = sprinkle_key(lane, group * 2); what a stream held besides its index does not matter
unfoldable pub prepared_stream : ℕ → ℕ → Bool → SprinkleStream
prepared_stream i lane sync =
    let key = key_of lane (i / 2 * 2) in
    record { index = i; next = next_of i key sync; emit = emit_of i key }

-- SprinkleStream::new
unfoldable pub new_of : ℕ → Bool → SprinkleStream
new_of lane sync = prepared_stream 0 lane sync

-- ---- the streams beside the clock
-- 2 * (reference / SPRINKLE_GROUP_CYCLES).floor().max(0.0) as u64
unfoldable pub group_of : Float → ℕ
group_of reference = product 2 (to_unsigned 64 (max (floor binary64 (div64 reference (f64 0x4008000000000000))) zero64))

-- if stream.next <= reference { stream.index += 1; stream.prepare(lane, sync); }
unfoldable pub skipped_of : SprinkleStream → ℕ → Float → Bool → SprinkleStream
skipped_of s lane reference sync = pick (le s.next reference) (prepared_stream (grown s.index) lane sync) s

-- one stream of `align_streams`: the group under way, and at most two starts left out
unfoldable pub aligned_of : ℕ → Float → Bool → SprinkleStream
aligned_of lane reference sync = skipped_of (skipped_of (prepared_stream (group_of reference) lane sync) lane reference sync) lane reference sync

unfoldable pub aligned_all : Float → Bool → List SprinkleStream
aligned_all reference sync = aligned_of 0 reference sync ∷ aligned_of 1 reference sync ∷ aligned_of 2 reference sync ∷ []

-- the larger of two words
unfoldable pub larger : ℕ → ℕ → ℕ
larger a b = pick (nat_lt a b) b a

-- `advance`: index = (stream.index + 1).max(2 * ..), then prepare
unfoldable pub moved_of : ℕ → ℕ → Float → Bool → SprinkleStream
moved_of index lane reference sync = prepared_stream (larger (grown index) (group_of reference)) lane sync

-- ---- the Cloud
-- opportunity as f64 + 0.5 + CLOUD_TIMING_SPREAD * (random(opportunity, 0) as f64 - 0.5)
unfoldable pub reference_of : ℕ → Float
reference_of opportunity = add64 (add64 (of_int binary64 (pos opportunity)) half_cycle) (mul64 (f64 0x3fe6666666666666) (sub64 (random_of opportunity 0) half_cycle))
