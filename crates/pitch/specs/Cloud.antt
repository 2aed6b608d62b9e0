-- The free Cloud's frequency, line by line as the Rust's `free_cloud_frequency`, without its guards: inside the limits the range begins at 20 Hz and goes on past the ramp, so they
-- change no answer (`RegisterChoice.antt` of `promises`). Definitions only.
use Rattle.std.specs.Prelude.{ℕ, Float}
use Rattle.std.specs.Float.Ieee.{le}
use Rattle.sequences.specs.Pick.{pick}
use Rattle.floats.specs.Names.{add32, sub32, mul32, div32, half, one, two}
use Rattle.draws.specs.Draws.{random_of}
use Rattle.elementary.specs.Log2.{log2_of}
use Rattle.powers.specs.Power.{exp2}
use Rattle.elementary.specs.Sqrt.{sqrt_of}
use Rattle.pitch.specs.Register.{min_hz, full_hz, low_probability}

-- PARTICLE_FULL_OPENING_HZ.log2() - lower
unfoldable pub ramp_of : Float → Float
ramp_of lower = sub32 (log2_of full_hz) lower

-- (1.0 - PARTICLE_LOW_PROBABILITY) / ramp
unfoldable pub slope_of : Float → Float
slope_of ramp = div32 (sub32 one low_probability) ramp

-- PARTICLE_LOW_PROBABILITY * end + 0.5 * slope * end * end
unfoldable pub mass_of : Float → Float → Float
mass_of slope end = add32 (mul32 low_probability end) (mul32 (mul32 (mul32 half slope) end) end)

-- 2.0 * target / (PARTICLE_LOW_PROBABILITY + (PARTICLE_LOW_PROBABILITY.powi(2) + 2.0 * slope * target).sqrt())
unfoldable pub in_ramp : Float → Float → Float
in_ramp slope target =
    let root = sqrt_of (add32 (mul32 low_probability low_probability) (mul32 (mul32 two slope) target)) in
    div32 (mul32 two target) (add32 low_probability root)

-- if target <= ramp_mass { .. } else { ramp + target - ramp_mass }
unfoldable pub offset_of : Float → Float → Float → Float → Float
offset_of slope ramp mass target = pick (le target mass) (in_ramp slope target) (sub32 (add32 ramp target) mass)

-- lower = PARTICLE_MIN_HZ.log2(); random(index, 1) * (ramp_mass + (span - ramp)), then (lower + offset).exp2()
unfoldable pub frequency_of : ℕ → Float → Float
frequency_of index maxHz =
    let lower = log2_of min_hz in
    let span = sub32 (log2_of maxHz) lower in
    let ramp = ramp_of lower in
    let slope = slope_of ramp in
    let mass = mass_of slope ramp in
    let target = mul32 (random_of index 1) (add32 mass (sub32 span ramp)) in
    exp2 (add32 lower (offset_of slope ramp mass target))
