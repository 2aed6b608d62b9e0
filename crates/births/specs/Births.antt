-- A new particle, line by line as the Rust's `birth` makes it once a place is free. Definitions only.
use Rattle.std.specs.Prelude.{ℕ, true, List, [], ◌∷◌, Float, None}
use Rattle.floats.specs.Names.{f32, add32, sub32, mul32, div32}
use Rattle.draws.specs.Draws.{random_of}
use Rattle.elementary.specs.Log2.{log2_of}
use Rattle.powers.specs.Power.{exp2}
use Rattle.pitch.specs.declared.octaves.Register.{Register}
use Rattle.pitch.specs.Octave.{register_of}
use Rattle.pitch.specs.Partials.{partials_of}
use Rattle.pitch.specs.Register as register
use Rattle.pool.specs.declared.Particle.{Particle}
use Rattle.settings.specs.declared.Config.{Config}
use Rattle.settings.specs.declared.Direction.{Direction}
use Rattle.settings.specs.declared.Shape.{Shape}
use Rattle.settings.specs.declared.Shape.TheVariants.{Sprinkle, Cloud}
use Rattle.settings.specs.Envelope.{contour_of}
use Rattle.births.specs.declared.voices.Voice.{Voice}
use Rattle.pitch.specs.Highest.{max_hz_of, rate32}

-- ---- octave and register_strength
-- if sprinkle { sprinkle_register(..) } else { (0.0, register_strength(frequency_hz.log2())) }
unfoldable pub register_by : Shape → ℕ → Float → Float → Direction → Register
register_by Sprinkle index hz maxHz direction = register_of index hz maxHz direction
register_by Cloud index hz maxHz direction = record { octave = f32 0; strength = register.register_strength (log2_of hz) }

-- ---- width, strength, decay_power, partials
-- range[0] + (range[1] - range[0]) * random(index, stream)
abbrev pub within : Float → Float → ℕ → ℕ → Float
within low high index stream = add32 low (mul32 (sub32 high low) (random_of index stream))

-- size * 0.5 * if sprinkle { SPRINKLE_WIDTH_RANGE by stream 7 } else { 1.0 }
unfoldable pub width_of : Shape → Float → ℕ → Float
width_of Sprinkle size index = mul32 (mul32 size (f32 0x3f000000)) (within (f32 0x3f266666) (f32 0x3fa00000) index 7)
width_of Cloud size index = mul32 (mul32 size (f32 0x3f000000)) (f32 0x3f800000)

-- if sprinkle { SPRINKLE_OPENING_RANGE by stream 10 } else { 1.0 }
unfoldable pub opening_of : Shape → ℕ → Float
opening_of Sprinkle index = within (f32 0x3f59999a) (f32 0x3f800000) index 10
opening_of Cloud index = f32 0x3f800000

-- source's * register_strength * opening
unfoldable pub strength_of : Shape → Float → Float → ℕ → Float
strength_of shape given register index = mul32 (mul32 given register) (opening_of shape index)

-- max_hz / (frequency_hz.log2() + octave).exp2()
unfoldable pub ratio_of : Float → Float → Float → Float
ratio_of hz octave maxHz = div32 maxHz (exp2 (add32 (log2_of hz) octave))

-- if sprinkle { select_partials(index, self.partial_weights, self.config.partials, ratio) } else { [1, 0, 0] }
unfoldable pub partials_by : Shape → ℕ → List Float → ℕ → Float → Float → Float → List ℕ
partials_by Sprinkle index weights limit hz octave maxHz = partials_of index weights limit (ratio_of hz octave maxHz)
partials_by Cloud index weights limit hz octave maxHz = 1 ∷ 0 ∷ 0 ∷ []

-- if sprinkle { SPRINKLE_DECAY_POWER } else { 1 }
unfoldable pub power_by : Shape → ℕ
power_by Sprinkle = 3
power_by Cloud = 1

-- ---- *p = Particle { .. }
unfoldable pub newborn_of : ℕ → Voice → Config → Float → ℕ → List Float → Particle
newborn_of index voice config rate sample weights =
    let shape = config.shape in
    let hz = voice.frequency_hz in
    let contour = contour_of config index (rate32 rate) in
    let register = register_by shape index hz (max_hz_of rate) config.direction in
    record {
      active = true;
      source = voice.slot;
      birth = sample;
      lifetime = contour.lifetime;
      frequency_hz = hz;
      octave = register.octave;
      width = width_of shape config.size_octaves index;
      strength = strength_of shape voice.strength register.strength index;
      attack = contour.attack;
      decay_power = power_by shape;
      partials = partials_by shape index weights config.partials hz register.octave (max_hz_of rate);
      retirement = None;
    }
