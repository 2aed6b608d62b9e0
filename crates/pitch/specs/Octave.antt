-- Sprinkle's octave, line by line as the Rust's `sprinkle_register`, on words of 32 bits, without its guards: inside the limits the range begins at 20 Hz and holds 7 or 8 octaves, so
-- they change no answer (`RegisterChoice.antt` of `promises`). Definitions only.
use Rattle.std.specs.Prelude.{ℕ, zero, suc, ◌+◌, ◌%◌, ◌^◌, Bool, true, false, cond, ◌==◌, Float}
use Rattle.std.specs.Float.{binary32}
use Rattle.std.specs.Float.Ieee.{to_unsigned, lt}
use Rattle.sequences.specs.Pick.{pick}
use Rattle.sequences.specs.Times.{times}
use Rattle.floats.specs.Names.{f32, add32, sub32, mul32, div32, zero32, half, one, as_float, minus_zero32}
use Rattle.floats.specs.Choose.{min}
use Rattle.floats.specs.Whole.{floor, ceil}
use Rattle.draws.specs.Draws.{random_of}
use Rattle.elementary.specs.Log2.{log2_of}
use Rattle.settings.specs.declared.Direction.{Direction}
use Rattle.settings.specs.declared.Direction.TheVariants.{Forward, Reverse, Alternate}
use Rattle.pitch.specs.declared.octaves.Register.{Register}
use Rattle.pitch.specs.Register.{min_hz, register_strength, probability_of}

-- index & 1 == 0 where the direction alternates
unfoldable pub upward_of : Direction → ℕ → Bool
upward_of Forward index = true
upward_of Reverse index = false
upward_of Alternate index = index % 2 == 0

-- if upward { 0.5 + position } else { 1.5 - position }
unfoldable pub tilt_of : Bool → Float → Float
tilt_of upward position = cond upward (add32 half position) (sub32 (f32 0x3fc00000) position)

-- count - 1, which wraps in a release build: of no octave at all, 2^32 - 1
unfoldable pub last_octave : ℕ → ℕ
last_octave count = (count + 4294967295) % 2 ^ 32

-- (count - 1) as f32
unfoldable pub span_of : ℕ → Float
span_of count = as_float (last_octave count)

-- register_probability(root_log + first + i as f32) * tilt, with position = i as f32 / span and low = root_log + first
unfoldable pub weight_of : Float → Float → Bool → ℕ → Float
weight_of low span upward i = mul32 (probability_of (add32 low (as_float i))) (tilt_of upward (div32 (as_float i) span))

-- (0..count).map(weight).sum()
unfoldable pub total_of : Float → Float → Bool → ℕ → Float
total_of low span upward count = times (λ i s. add32 s (weight_of low span upward i)) count minus_zero32

-- for i in .. { target -= weight(i); if target < 0.0 { chosen = i; break; } }, over the n octaves from i on
unfoldable pub chosen_from : (ℕ → Float) → ℕ → ℕ → ℕ → Float → ℕ
chosen_from weight last zero i target = last
chosen_from weight last (suc n) i target = let left = sub32 target (weight i) in pick (lt left zero32) i (chosen_from weight last n (suc i) left)

-- the walk from the first octave; where none takes the target below 0, the last one
unfoldable pub octave_chosen : Float → Float → Bool → ℕ → Float → ℕ
octave_chosen low span upward count target = chosen_from (weight_of low span upward) (last_octave count) count 0 target

-- first = (PARTICLE_MIN_HZ.log2() - root_log).ceil(); last = (upper.log2() - root_log).floor(); count = (last - first + 1.0) as u32
unfoldable pub first_octave : Float → Float
first_octave rootLog = ceil binary32 (sub32 (log2_of min_hz) rootLog)

unfoldable pub octaves_of : Float → Float → Float → ℕ
octaves_of rootLog first upper = to_unsigned 32 (add32 (sub32 (floor binary32 (sub32 (log2_of upper) rootLog)) first) one)

-- the octave chosen, with target = random(index, 2) * total
unfoldable pub octave_drawn : ℕ → Float → Bool → ℕ → ℕ
octave_drawn index low upward count =
    let span = span_of count in
    let target = mul32 (random_of index 2) (total_of low span upward count) in
    octave_chosen low span upward count target

-- first + chosen as f32
unfoldable pub octave_of : ℕ → Float → Float → Bool → Float
octave_of index rootLog upper upward =
    let first = first_octave rootLog in
    let count = octaves_of rootLog first upper in
    add32 first (as_float (octave_drawn index (add32 rootLog first) upward count))

-- upper = SPRINKLE_MAX_HZ.min(max_hz)
unfoldable pub upper_of : Float → Float
upper_of maxHz = min (f32 0x4582d014) maxHz

-- (octave, register_strength(root_log + octave))
unfoldable pub register_of : ℕ → Float → Float → Direction → Register
register_of index rootHz maxHz direction =
    let rootLog = log2_of rootHz in
    let o = octave_of index rootLog (upper_of maxHz) (upward_of direction index) in
    record { octave = o; strength = register_strength (add32 rootLog o) }
