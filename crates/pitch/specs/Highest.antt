-- The highest frequency of a sample rate, line by line as the Rust has it. Definitions only.
use Rattle.std.specs.Prelude.{Float}
use Rattle.std.specs.Float.{binary32}
use Rattle.floats.specs.Names.{f32, mul32}
use Rattle.floats.specs.Choose.{min}
use Rattle.floats.specs.Convert.{convert}

-- self.prepared.sample_rate as f32
abbrev pub rate32 : Float → Float
rate32 rate = convert binary32 rate

-- (self.prepared.sample_rate as f32 * 0.5).min(20_000.0)
unfoldable pub max_hz_of : Float → Float
max_hz_of rate = min (mul32 (rate32 rate) (f32 0x3f000000)) (f32 0x469c4000)
