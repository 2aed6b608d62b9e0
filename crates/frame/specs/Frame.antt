-- How a frame moves the background's activity, line by line as the Rust's `frame`, and which seconds it takes. Definitions only.
use Rattle.std.specs.Prelude.{Bool, cond, ◌&&◌, Float}
use Rattle.std.specs.Float.Ieee.{lt, le, neg}
use Rattle.std.specs.Float.Ieee.Scale.{finite}
use Rattle.sequences.specs.Pick.{pick}
use Rattle.floats.specs.Names.{f32, add32, sub32, mul32, div32, zero32, one}
use Rattle.powers.specs.Power.{exp}

-- 1.0 - (-elapsed_seconds / TRANSITION_SECONDS).exp()
unfoldable pub activity_step : Float → Float
activity_step seconds = sub32 one (exp (div32 (neg seconds) (f32 0x3d4ccccd)))

-- self.activity += (target - self.activity) * step, where target is f32::from(active)
unfoldable pub activity_moved : Float → Bool → Float → Float
activity_moved before enabled seconds = add32 before (mul32 (sub32 (cond enabled one zero32) before) (activity_step seconds))

-- if !active && self.activity < 1e-6 { self.activity = 0.0; }
unfoldable pub activity_of : Float → Bool → Float → Float
activity_of before enabled seconds = let after = activity_moved before enabled seconds in pick enabled after (cond (lt after (f32 0x358637bd)) zero32 after)

-- ---- refusal 7 is given for seconds that are negative or not finite; minus zero passes
unfoldable pub accepted : Float → Bool
accepted seconds = finite seconds && le zero32 seconds
