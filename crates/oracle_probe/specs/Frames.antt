-- A frame from plain floats, three for a window, and an answer as 01's number beside what the call leaves. Definitions only.
use Rattle.std.specs.Prelude.{ℕ, ◌+◌, ◌*◌, List, slice_index_or, Float}
use Rattle.sequences.specs.Table.{table}
use Rattle.refusals.specs.Numbers.{Answer, answer_of}
use Rattle.windows.specs.declared.Window.{Window}
use Rattle.windows.specs.declared.Frame.{Frame}
use Rattle.floats.specs.Names.{zero32}

unfoldable pub flat_window : List Float → ℕ → Window
flat_window flat j = record { center_log2_hz = slice_index_or flat (3 * j) zero32; radius_octaves = slice_index_or flat (3 * j + 1) zero32; amplitude = slice_index_or flat (3 * j + 2) zero32 }

unfoldable pub flat_frame : List Float → Float → Frame
flat_frame flat activity = record { windows = table 192 (flat_window flat); activity = activity }

-- of a call that leaves one slice, and of one that leaves two
abbrev pub numbered : Answer × List Float → ℕ × List Float
numbered (answer, table) = (answer_of answer, table)

abbrev pub numbered_both : Answer × List Float × List Float → ℕ × List Float × List Float
numbered_both (answer, scratch, output) = (answer_of answer, scratch, output)
