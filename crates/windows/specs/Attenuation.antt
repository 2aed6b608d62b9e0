-- What a frame leaves of a frequency, line by line as the Rust. Definitions only.
use Rattle.std.specs.Prelude.{ℕ, List, Float}
use Rattle.std.specs.Float.Ieee.{le}
use Rattle.sequences.specs.Pick.{pick}
use Rattle.sequences.specs.Walk.{walk}
use Rattle.floats.specs.Names.{f32, sub32, mul32, zero32, one}
use Rattle.floats.specs.Choose.{max, clamp}
use Rattle.elementary.specs.Log2.{log2_of}
use Rattle.windows.specs.declared.Window.{Window}
use Rattle.windows.specs.declared.Frame.{Frame}
use Rattle.windows.specs.Opening.{openness_of}

-- ---- Frame::attenuation_db
-- self.windows.iter().fold(0.0_f32, |o, w| o.max(w.openness(log)))
abbrev pub opening : Float → ℕ → Window → Float → Float
opening log i w o = max o (openness_of w log)

unfoldable pub opened_by : List Window → Float → Float
opened_by ws log = walk (opening log) 0 ws zero32

-- frequency_hz.max(f32::MIN_POSITIVE).log2()
unfoldable pub log_place : Float → Float
log_place hz = log2_of (max hz (f32 0x00800000))

-- if depth_db <= 0.0 { return 0.0; } .. depth_db.clamp(0.0, 60.0) * self.activity * (1.0 - openness)
unfoldable pub attenuation_of : Frame → Float → Float → Float
attenuation_of f hz depth =
    pick (le depth zero32) zero32
    (mul32 (mul32 (clamp depth zero32 (f32 0x42700000)) f.activity) (sub32 one (opened_by f.windows (log_place hz))))
