-- How a register counts by its height, line by line as the Rust. Definitions only.
use Rattle.std.specs.Prelude.{Float}
use Rattle.floats.specs.Names.{f32, add32, sub32, mul32, div32, zero32, one}
use Rattle.floats.specs.Choose.{clamp}
use Rattle.elementary.specs.Log2.{log2_of}

-- PARTICLE_MIN_HZ, 20.0, and PARTICLE_FULL_OPENING_HZ, 440.0
abbrev pub min_hz : Float
min_hz = f32 0x41a00000

abbrev pub full_hz : Float
full_hz = f32 0x43dc0000

-- PARTICLE_LOW_OPENING, 0.1, and PARTICLE_LOW_PROBABILITY, 0.15
abbrev pub low_opening : Float
low_opening = f32 0x3dcccccd

abbrev pub low_probability : Float
low_probability = f32 0x3e19999a

-- ((log_hz - PARTICLE_MIN_HZ.log2()) / (PARTICLE_FULL_OPENING_HZ / PARTICLE_MIN_HZ).log2()).clamp(0.0, 1.0)
unfoldable pub height_of : Float → Float
height_of logHz = clamp (div32 (sub32 logHz (log2_of min_hz)) (log2_of (div32 full_hz min_hz))) zero32 one

-- PARTICLE_LOW_OPENING + (1.0 - PARTICLE_LOW_OPENING) * height * height
unfoldable pub register_strength : Float → Float
register_strength logHz =
    let height = height_of logHz in
    add32 low_opening (mul32 (mul32 (sub32 one low_opening) height) height)

-- PARTICLE_LOW_PROBABILITY + (1.0 - PARTICLE_LOW_PROBABILITY) * register_height(log_hz)
unfoldable pub probability_of : Float → Float
probability_of logHz = add32 low_probability (mul32 (sub32 one low_probability) (height_of logHz))
