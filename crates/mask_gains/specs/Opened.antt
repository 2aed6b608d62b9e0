-- What the windows open, line by line as the Rust's `Mask::gains`, with 01's refusals 5 and 6 in this order. Definitions only.
use Rattle.std.specs.Prelude.{ℕ, Bool, not, cond, ◌&&◌, List, eqb, ltb, length, get_or, Float, Ok, Err}
use Rattle.std.specs.Float.{nan}
use Rattle.std.specs.Float.Ieee.{lt, le}
use Rattle.sequences.specs.Pick.{pick}
use Rattle.sequences.specs.Table.{table}
use Rattle.sequences.specs.Walk.{walk}
use Rattle.floats.specs.Names.{add32, sub32, zero32}
use Rattle.floats.specs.Choose.{max}
use Rattle.refusals.specs.Numbers.{Answer}
use Rattle.refusals.specs.declared.Refusal.TheVariants.{Lengths, Logs}
use Rattle.windows.specs.declared.Window.{Window}
use Rattle.mask_gains.specs.Logs.{lawful_logs}
use Rattle.windows.specs.Opening.{openness_of}

-- ---- 01, Mask: a window touches bins from 1 whose log lies from centre - radius to centre + radius, as rounded f32
unfoldable pub touches : Window → Float → Bool
touches w log =
    not (lt log (sub32 w.center_log2_hz w.radius_octaves))
    && le log (add32 w.center_log2_hz w.radius_octaves)

-- if w.amplitude <= 0.0 { continue; } .. *o = o.max(w.openness(*log));
unfoldable pub raised_of : ℕ → Float → Window → Float → Float
raised_of bin log w o = cond (ltb 0 bin && (not (le w.amplitude zero32) && touches w log)) (max o (openness_of w log)) o

-- for w in &frame.windows, at one bin
abbrev pub raising : ℕ → Float → ℕ → Window → Float → Float
raising bin log j w o = raised_of bin log w o

unfoldable pub open_at : List Window → List Float → ℕ → Float
open_at ws logs bin = walk (raising bin (get_or logs bin nan)) 0 ws zero32

-- the answer, and then scratch afterwards
unfoldable pub opened_of : List Window → List Float → List Float → Answer × List Float
opened_of ws logs scratch =
    let n = length scratch in
    pick (eqb n (length logs))
    (pick (lawful_logs logs) (Ok tt, table n (open_at ws logs)) (Err Logs, scratch))
    (Err Lengths, scratch)
