-- A host's numbers as settings, and what a host sees of a write. Definitions only.
use Rattle.std.specs.Prelude.{ℕ, Bool, List, length, Float}
use Rattle.text.specs.Put.{buffer_of}
use Rattle.refusals.specs.Numbers.{answer_of}
use Rattle.script.specs.declared.fields.Field.{Field}
use Rattle.script_writer.specs.Encoded.{encoded}
use Rattle.script_writer.specs.Written.{written_of}
use Rattle.settings.specs.declared.Config.{Config}
use Rattle.settings.specs.ByNumber.{shape_from, direction_from}

abbrev pub config_from : Bool → ℕ → ℕ → Float → Float → Float → Bool → Bool → ℕ → ℕ → Float → Float → Float → Config
config_from enabled shape direction rate size phase scheduled sync hop partials rolloff attack release =
    record {
      enabled = enabled;
      shape = shape_from shape;
      direction = direction_from direction;
      rate_hz = rate;
      size_octaves = size;
      phase = phase;
      scheduled = scheduled;
      sync = sync;
      hop_samples = hop;
      partials = partials;
      partial_rolloff_db = rolloff;
      attack_ms = attack;
      release_ms = release;
    }

-- the number of the answer, the count behind its reference, and the buffer
abbrev pub written_at : List ℕ → ℕ → Field → ℕ × ℕ × List ℕ
written_at o at f =
    let w = written_of (length o) at (encoded f) in
    (answer_of w.1, w.0, buffer_of o at (encoded f))
