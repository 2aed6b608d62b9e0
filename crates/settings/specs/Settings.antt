-- Which shape it is, the settings' default, and 01's limits of the hop and of the sample rate. Definitions only.
use Rattle.std.specs.Prelude.{ℕ, Bool, true, false, ◌&&◌, ltb, Float, Ok, Err}
use Rattle.std.specs.Float.Ieee.{le}
use Rattle.std.specs.Float.Ieee.Scale.{finite}
use Rattle.sequences.specs.Pick.{pick}
use Rattle.floats.specs.Names.{f32, zero32, one}
use Rattle.refusals.specs.Numbers.{Answer}
use Rattle.refusals.specs.declared.Refusal.TheVariants.{Size}
use Rattle.settings.specs.declared.Config.{Config}
use Rattle.settings.specs.declared.Shape.{Shape}
use Rattle.settings.specs.declared.Shape.TheVariants.{Sprinkle, Cloud}
use Rattle.settings.specs.declared.Direction.TheVariants.{Forward}

abbrev pub is_sprinkle : Shape → Bool
is_sprinkle Sprinkle = true
is_sprinkle Cloud = false

abbrev pub default_config : Config
default_config =
    record {
      enabled = true;
      shape = Sprinkle;
      direction = Forward;
      rate_hz = one;
      size_octaves = one;
      phase = zero32;
      scheduled = true;
      sync = false;
      hop_samples = 2048;
      partials = 1;
      partial_rolloff_db = f32 0x40c00000;
      attack_ms = zero32;
      release_ms = f32 0x428c0000;
    }

-- 01's limit of the hop
abbrev pub max_hop : ℕ
max_hop = 16384

unfoldable pub checked_of : Config → Answer
checked_of c = pick (ltb max_hop c.hop_samples) (Err Size) (Ok tt)

-- a lawful sample rate: finite, from 8,000 to 384,000
unfoldable pub lawful_rate : Float → Bool
lawful_rate r = finite r && (le (f32 0x45fa0000) r && le r (f32 0x48bb8000))
