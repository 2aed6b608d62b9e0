-- Settings that the form cannot hold: a hop or a number of partials above 2^32 - 1. Definitions only.
use Rattle.settings.specs.declared.Config.{Config}
use Rattle.script_writer.specs.Encoded.{held32}

-- the settings as the form holds them
abbrev pub held_config : Config → Config
held_config c =
    record {
      enabled = c.enabled;
      shape = c.shape;
      direction = c.direction;
      rate_hz = c.rate_hz;
      size_octaves = c.size_octaves;
      phase = c.phase;
      scheduled = c.scheduled;
      sync = c.sync;
      hop_samples = held32 c.hop_samples;
      partials = held32 c.partials;
      partial_rolloff_db = c.partial_rolloff_db;
      attack_ms = c.attack_ms;
      release_ms = c.release_ms;
    }
