-- Settings and weights from plain numbers, a due stream after one sample, harmonics as one number. Definitions only.
use Rattle.std.specs.Prelude.{ℕ, ◌+◌, ◌*◌, ◌%◌, ◌^◌, Bool, true, false, List, from_bits, slice_index, Float}
use Rattle.std.specs.Float.{binary32}
use Rattle.std.specs.Float.Ieee.{lt}
use Rattle.sequences.specs.Pick.{pick}
use Rattle.sequences.specs.Table.{table}
use Rattle.draws.specs.Draws.{mix_of}
use Rattle.settings.specs.declared.Config.{Config}
use Rattle.settings.specs.ByNumber.{shape_from, direction_from}
use Rattle.timing.specs.declared.SprinkleStream.{SprinkleStream}
use Rattle.timing.specs.Streams.{moved_of}

unfoldable pub probed_config : ℕ → ℕ → Float → Float → Float → ℕ → ℕ → Float → Float → Float → Config
probed_config kind way rate size turn hop count rolloff attack release =
    record {
      enabled = true;
      shape = shape_from kind;
      direction = direction_from way;
      rate_hz = rate;
      size_octaves = size;
      phase = turn;
      scheduled = true;
      sync = false;
      hop_samples = hop;
      partials = count;
      partial_rolloff_db = rolloff;
      attack_ms = attack;
      release_ms = release;
    }

-- a sample tries each lane at most twice
unfoldable pub sampled_of : ℕ → ℕ → Float → Bool → SprinkleStream
sampled_of index lane reference sync = let s = moved_of index lane reference sync in pick (lt reference s.next) s (moved_of s.index lane reference sync)

-- weights of any kind, by a seed
unfoldable pub weight_from : ℕ → ℕ → Float
weight_from seed i = from_bits binary32 (mix_of ((seed + i) % 2 ^ 64) % 4294967296)

unfoldable pub weights_from : ℕ → List Float
weights_from seed = table 24 (weight_from seed)

-- three harmonics as one number
unfoldable pub packed_of : List ℕ → ℕ
packed_of picks = slice_index picks 0 + slice_index picks 1 * 256 + slice_index picks 2 * 65536
