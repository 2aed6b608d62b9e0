-- The windows of what the places show, line by line as the Rust's `frame`. Definitions only.
use Rattle.std.specs.Prelude.{ℕ, ◌-◌, ◌/◌, ◌%◌, List, [], get_or, ◌==◌, nat_lt, slice_index, slice_index_or, Float}
use Rattle.std.specs.Float.{nan}
use Rattle.std.specs.Float.Ieee.{le}
use Rattle.sequences.specs.Pick.{pick}
use Rattle.sequences.specs.Table.{table}
use Rattle.floats.specs.Names.{add32, div32, zero32, one}
use Rattle.floats.specs.Choose.{max}
use Rattle.elementary.specs.Log2.{log2_of}
use Rattle.powers.specs.Power.{exp2}
use Rattle.windows.specs.declared.Window.{Window}
use Rattle.windows.specs.Opening.{empty_window}
use Rattle.frame.specs.declared.places.Shown.{Shown}

-- p.width.max((1.0 + bin_hz.max(0.0) / hz.max(1.0)).log2())
unfoldable pub radius_of : Float → Float → Float → Float
radius_of width bin_hz hz = max width (log2_of (add32 one (div32 (max bin_hz zero32) (max hz one))))

-- root_log + self.prepared.partial_logs[partial as usize - 1]
unfoldable pub center_of : List Float → Shown → ℕ → Float
center_of logs s partial = add32 s.root_log (slice_index_or logs (partial - 1) nan)

-- if hz >= max_hz { continue; } .. Window { .. }
unfoldable pub window_by : Float → Float → Shown → Float → Window
window_by bin_hz maxHz s center =
    let hz = exp2 center in
    pick (le maxHz hz) empty_window
    (record { center_log2_hz = center; radius_octaves = radius_of s.width bin_hz hz; amplitude = s.amplitude })

-- if partial == 0 { continue; } Above 24, where no particle of ours has a partial, the Rust panics; here nothing is shown.
unfoldable pub window_of : List Float → Float → Float → Shown → ℕ → Window
window_of logs bin_hz maxHz s partial = pick (partial == 0) empty_window (pick (nat_lt 24 partial) empty_window (window_by bin_hz maxHz s (center_of logs s partial)))

-- what stands past the end of the places, where no window looks
abbrev pub past_shown : Shown
past_shown = record { root_log = nan; amplitude = nan; width = nan; partials = [] }

-- frame.windows[slot + window * MAX_PARTICLES]
unfoldable pub window_at : List Float → Float → Float → List Shown → ℕ → Window
window_at logs bin_hz maxHz shown j = let s = get_or shown (j % 64) past_shown in window_of logs bin_hz maxHz s (slice_index s.partials (j / 64))

unfoldable pub windows_of : List Float → Float → Float → List Shown → List Window
windows_of logs bin_hz maxHz shown = table 192 (window_at logs bin_hz maxHz shown)
