-- How `configure` mends the settings' numbers, line by line as the Rust. Definitions only.
use Rattle.std.specs.Prelude.{ℕ, cond, ltb, Float}
use Rattle.std.specs.Float.{binary32}
use Rattle.std.specs.Float.Ieee.Scale.{finite}
use Rattle.sequences.specs.Pick.{pick}
use Rattle.floats.specs.Names.{f32, zero32, one}
use Rattle.floats.specs.Choose.{clamp}
use Rattle.floats.specs.Remainder.{rem_euclid}
use Rattle.settings.specs.declared.Config.{Config}

-- if x.is_finite() { x } else { fallback }
unfoldable pub finite_or : Float → Float → Float
finite_or x fallback = cond (finite x) x fallback

-- finite(x, fallback).clamp(a, b)
unfoldable pub held_to : Float → Float → Float → Float → Float
held_to x fallback a b = clamp (finite_or x fallback) a b

-- finite(config.attack_ms, 0.0).clamp(0.0, 5000.0)
abbrev pub attack_of : Float → Float
attack_of x = held_to x zero32 zero32 (f32 0x459c4000)

-- finite(config.release_ms, 70.0).clamp(0.0, 5000.0)
abbrev pub release_ms_of : Float → Float
release_ms_of x = held_to x (f32 0x428c0000) zero32 (f32 0x459c4000)

-- config.partials.clamp(1, MAX_PARTIALS)
unfoldable pub partials_held : ℕ → ℕ
partials_held n = pick (ltb n 1) 1 (pick (ltb 24 n) 24 n)

-- finite(config.partial_rolloff_db, 6.0).clamp(0.0, 24.0)
abbrev pub rolloff_of : Float → Float
rolloff_of x = held_to x (f32 0x40c00000) zero32 (f32 0x41c00000)

-- finite(config.rate_hz, 1.0).clamp(0.01, 32.0)
abbrev pub rate_held : Float → Float
rate_held x = held_to x one (f32 0x3c23d70a) (f32 0x42000000)

-- finite(config.size_octaves, 1.0).clamp(0.125, 8.0)
abbrev pub size_held : Float → Float
size_held x = held_to x one (f32 0x3e000000) (f32 0x41000000)

-- finite(config.phase, 0.0).rem_euclid(1.0)
unfoldable pub phase_of : Float → Float
phase_of x = rem_euclid binary32 (finite_or x zero32) one

unfoldable pub mended_of : Config → Config
mended_of c =
    record {
      enabled = c.enabled;
      shape = c.shape;
      direction = c.direction;
      rate_hz = rate_held c.rate_hz;
      size_octaves = size_held c.size_octaves;
      phase = phase_of c.phase;
      scheduled = c.scheduled;
      sync = c.sync;
      hop_samples = c.hop_samples;
      partials = partials_held c.partials;
      partial_rolloff_db = rolloff_of c.partial_rolloff_db;
      attack_ms = attack_of c.attack_ms;
      release_ms = release_ms_of c.release_ms;
    }
