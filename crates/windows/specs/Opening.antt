-- The empty window and frame, the taper, and how far a window opens a place, line by line as the Rust. Definitions only.
use Rattle.std.specs.Prelude.{cond, List, replicate, Float}
use Rattle.std.specs.Float.Ieee.{le}
use Rattle.floats.specs.Names.{f32, sub32, mul32, div32, zero32, one}
use Rattle.floats.specs.Choose.{clamp, abs}
use Rattle.windows.specs.declared.Window.{Window}
use Rattle.windows.specs.declared.Frame.{Frame}

-- ---- Window::default and Frame::default
abbrev pub empty_window : Window
empty_window = record { center_log2_hz = zero32; radius_octaves = zero32; amplitude = zero32 }

unfoldable pub no_windows : List Window
no_windows = replicate 192 empty_window

abbrev pub empty_frame : Frame
empty_frame = record { windows = no_windows; activity = zero32 }

-- ---- taper
-- x * x * (3.0 - 2.0 * x)
unfoldable pub cubic : Float → Float
cubic x = mul32 (mul32 x x) (sub32 (f32 0x40400000) (mul32 (f32 0x40000000) x))

-- let x = x.clamp(0.0, 1.0); x * x * (3.0 - 2.0 * x)
unfoldable pub taper_of : Float → Float
taper_of x = cubic (clamp x zero32 one)

-- ---- Window::openness
-- 1.0 - (log2_hz - self.center_log2_hz).abs() / self.radius_octaves
unfoldable pub inside_of : Window → Float → Float
inside_of w log = sub32 one (div32 (abs (sub32 log w.center_log2_hz)) w.radius_octaves)

-- if self.radius_octaves <= 0.0 { return 0.0; } let x = (..).clamp(0.0, 1.0); self.amplitude * taper(x)
unfoldable pub openness_of : Window → Float → Float
openness_of w log = cond (le w.radius_octaves zero32) zero32 (mul32 w.amplitude (taper_of (clamp (inside_of w log) zero32 one)))
