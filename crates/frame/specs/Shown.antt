-- What a particle shows in a frame, line by line as the Rust's `frame`. Definitions only.
use Rattle.std.specs.Prelude.{ℕ, [], ◌∷◌, ◌==◌, Float}
use Rattle.std.specs.Float.{binary32}
use Rattle.std.specs.Float.Ieee.{lt}
use Rattle.sequences.specs.Pick.{pick}
use Rattle.floats.specs.Names.{add32, sub32, mul32, div32, div64, zero32, one}
use Rattle.floats.specs.Convert.{convert}
use Rattle.elementary.specs.Log2.{log2_of}
use Rattle.pool.specs.declared.Particle.{Particle}
use Rattle.windows.specs.Opening.{taper_of}
use Rattle.frame.specs.declared.places.Shown.{Shown}
use Rattle.frame.specs.Freed.{seconds_of, retirement_of}

-- .powi(p.decay_power), which is 3 or 1 (01: x * x * x from left to right, or x)
unfoldable pub power_of : Float → ℕ → Float
power_of x power = pick (power == 3) (mul32 (mul32 x x) x) x

-- if x < attack { taper(x / attack) } else { taper((1.0 - x) / (1.0 - attack)).powi(p.decay_power) }
unfoldable pub envelope_of : Float → Float → ℕ → Float
envelope_of x attack power = pick (lt x attack) (taper_of (div32 x attack)) (power_of (taper_of (div32 (sub32 one x) (sub32 one attack))) power)

-- let x = (age / p.lifetime) as f32;
unfoldable pub passed_of : ℕ → Float → Particle → Float
passed_of sample rate p = convert binary32 (div64 (seconds_of p.birth sample rate) p.lifetime)

-- taper(1.0 - retirement as f32)
unfoldable pub fade_of : ℕ → Float → Particle → Float
fade_of sample rate p = taper_of (sub32 one (convert binary32 (retirement_of p.retirement sample rate)))

-- p.strength * envelope * taper(1.0 - retirement as f32)
unfoldable pub amplitude_of : ℕ → Float → Particle → Float
amplitude_of sample rate p = mul32 (mul32 p.strength (envelope_of (passed_of sample rate p) p.attack p.decay_power)) (fade_of sample rate p)

-- p.frequency_hz.log2() + p.octave
unfoldable pub root_log_of : Particle → Float
root_log_of p = add32 (log2_of p.frequency_hz) p.octave

-- a free place has no partial to show
unfoldable pub nothing : Shown
nothing = record { root_log = zero32; amplitude = zero32; width = zero32; partials = 0 ∷ 0 ∷ 0 ∷ [] }

unfoldable pub shown_of : ℕ → Float → Particle → Shown
shown_of sample rate p =
    pick p.active
    (record { root_log = root_log_of p; amplitude = amplitude_of sample rate p; width = p.width; partials = p.partials })
    nothing
