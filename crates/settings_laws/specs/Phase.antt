-- Settings with another phase. Definitions only.
use Rattle.std.specs.Prelude.{Float}
use Rattle.settings.specs.declared.Config.{Config}

abbrev pub with_phase : Float → Config → Config
with_phase x c =
    record {
      enabled = c.enabled;
      shape = c.shape;
      direction = c.direction;
      rate_hz = c.rate_hz;
      size_octaves = c.size_octaves;
      phase = x;
      scheduled = c.scheduled;
      sync = c.sync;
      hop_samples = c.hop_samples;
      partials = c.partials;
      partial_rolloff_db = c.partial_rolloff_db;
      attack_ms = c.attack_ms;
      release_ms = c.release_ms;
    }
