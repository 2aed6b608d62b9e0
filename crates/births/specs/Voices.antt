-- What a birth sounds, line by line as the Rust's `birth` finds it. Definitions only.
use Rattle.std.specs.Prelude.{ℕ, Float, Some, None}
use Rattle.std.specs.Float.{binary64}
use Rattle.std.specs.Float.Ieee.{to_unsigned}
use Rattle.pitch.specs.Highest.{max_hz_of}
use Rattle.floats.specs.Names.{f32, f64, mul32, div64}
use Rattle.floats.specs.Choose.{clamp}
use Rattle.floats.specs.Whole.{floor}
use Rattle.draws.specs.Draws.{random_of}
use Rattle.powers.specs.Power.{pow8}
use Rattle.pitch.specs.Cloud.{frequency_of}
use Rattle.settings.specs.declared.Shape.{Shape}
use Rattle.settings.specs.declared.Shape.TheVariants.{Sprinkle, Cloud}
use Rattle.sources.specs.declared.Source.{Source}
use Rattle.births.specs.declared.voices.Voice.{Voice}

-- ---- frequency_hz
-- let phrase = (self.phase / SPRINKLE_GROUP_CYCLES).floor() as u64; FREE_ROOT_MIN_HZ * FREE_ROOT_RATIO.powf(random(phrase, 11))
unfoldable pub free_root_of : Float → Float
free_root_of phase =
    let phrase = to_unsigned 64 (floor binary64 (div64 phase (f64 0x4008000000000000))) in
    mul32 (f32 0x43480000) (pow8 (random_of phrase 11))

unfoldable pub free_hz_of : Shape → ℕ → Float → Float → Float
free_hz_of Sprinkle index phase maxHz = free_root_of phase
free_hz_of Cloud index phase maxHz = frequency_of index maxHz

-- without a source: its own frequency, and strength 1.0
unfoldable pub free_voice_of : Shape → ℕ → Float → Float → Voice
free_voice_of shape index phase rate =
    record { slot = None; frequency_hz = free_hz_of shape index phase (max_hz_of rate); strength = f32 0x3f800000 }

-- |s| self.sources[s].frequency_hz, |s| self.sources[s].strength.clamp(0.0, 1.0)
unfoldable pub source_voice_of : ℕ → Source → Voice
source_voice_of slot s =
    record { slot = Some slot; frequency_hz = s.frequency_hz; strength = clamp s.strength (f32 0) (f32 0x3f800000) }
