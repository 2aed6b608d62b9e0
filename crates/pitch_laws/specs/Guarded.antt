-- `sprinkle_register` and `free_cloud_frequency` with every guard of the Rust, line by line: what the answers are held against. Definitions only.
use Rattle.std.specs.Prelude.{ℕ, Bool, ltb, Float}
use Rattle.std.specs.Float.{binary32}
use Rattle.std.specs.Float.Ieee.{to_unsigned}
use Rattle.sequences.specs.Pick.{pick}
use Rattle.floats.specs.Names.{f32, add32, sub32, mul32, zero32, half, one, as_float}
use Rattle.floats.specs.Choose.{max, min}
use Rattle.floats.specs.Whole.{floor, ceil}
use Rattle.draws.specs.Draws.{random_of}
use Rattle.elementary.specs.Log2.{log2_of}
use Rattle.powers.specs.Power.{exp2}
use Rattle.settings.specs.declared.Direction.{Direction}
use Rattle.pitch.specs.Register.{min_hz, full_hz, register_strength}
use Rattle.pitch.specs.declared.octaves.Register.{Register}
use Rattle.pitch.specs.Octave.{upward_of, last_octave, total_of, octave_chosen}
use Rattle.pitch.specs.Cloud.{slope_of, mass_of, offset_of}

-- ---- sprinkle_register
-- upper = SPRINKLE_MAX_HZ.min(max_hz.max(1.0)), lower = PARTICLE_MIN_HZ.min(upper * 0.5)
unfoldable pub upper_of : Float → Float
upper_of maxHz = min (f32 0x4582d014) (max maxHz one)

unfoldable pub lower_of : Float → Float
lower_of upper = min min_hz (mul32 upper half)

-- first = (lower.log2() - root_log).ceil(); last = (upper.log2() - root_log).floor().max(first); count = (last - first + 1.0) as u32
unfoldable pub first_octave : Float → Float → Float
first_octave rootLog lower = ceil binary32 (sub32 (log2_of lower) rootLog)

unfoldable pub octaves_of : Float → Float → Float → ℕ
octaves_of rootLog first upper = to_unsigned 32 (add32 (sub32 (max (floor binary32 (sub32 (log2_of upper) rootLog)) first) first) one)

-- (count - 1).max(1) as f32
unfoldable pub span_of : ℕ → Float
span_of count = pick (ltb 1 (last_octave count)) (as_float (last_octave count)) (as_float 1)

-- the octave chosen, with target = random(index, 2) * total
unfoldable pub octave_drawn : ℕ → Float → Bool → ℕ → ℕ
octave_drawn index low upward count =
    let span = span_of count in
    let target = mul32 (random_of index 2) (total_of low span upward count) in
    octave_chosen low span upward count target

-- first + chosen as f32
unfoldable pub octave_of : ℕ → Float → Float → Float → Bool → Float
octave_of index rootLog lower upper upward =
    let first = first_octave rootLog lower in
    let count = octaves_of rootLog first upper in
    add32 first (as_float (octave_drawn index (add32 rootLog first) upward count))

-- (octave, register_strength(root_log + octave))
unfoldable pub register_of : ℕ → Float → Float → Direction → Register
register_of index rootHz maxHz direction =
    let upper = upper_of maxHz in
    let rootLog = log2_of rootHz in
    let o = octave_of index rootLog (lower_of upper) upper (upward_of direction index) in
    record { octave = o; strength = register_strength (add32 rootLog o) }

-- ---- free_cloud_frequency
-- f32::EPSILON
abbrev pub epsilon : Float
epsilon = f32 0x34000000

-- PARTICLE_MIN_HZ.min(max_hz * 0.5).log2()
unfoldable pub cloud_lower_of : Float → Float
cloud_lower_of maxHz = log2_of (min min_hz (mul32 maxHz half))

-- (PARTICLE_FULL_OPENING_HZ.log2() - lower).max(f32::EPSILON)
unfoldable pub ramp_of : Float → Float
ramp_of lower = max (sub32 (log2_of full_hz) lower) epsilon

-- random(index, 1) * (ramp_mass + (span - ramp).max(0.0)), with ramp_mass up to span.min(ramp), then (lower + offset).exp2()
unfoldable pub frequency_of : ℕ → Float → Float
frequency_of index maxHz =
    let lower = cloud_lower_of maxHz in
    let span = sub32 (log2_of maxHz) lower in
    let ramp = ramp_of lower in
    let slope = slope_of ramp in
    let mass = mass_of slope (min span ramp) in
    let target = mul32 (random_of index 1) (add32 mass (max (sub32 span ramp) zero32)) in
    exp2 (add32 lower (offset_of slope ramp mass target))
