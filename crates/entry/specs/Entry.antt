-- What a host asks a script for: its last accepted frame, as bytes. Definitions only.
use Rattle.std.specs.Prelude.{ℕ, List, ◌++◌, eqb, length, get_or, Ok, Err}
use Rattle.sequences.specs.Pick.{pick}
use Rattle.text.specs.Put.{joined_all}
use Rattle.big_endian.specs.Bytes.{single}
use Rattle.refusals.specs.Numbers.{Answer}
use Rattle.refusals.specs.declared.Refusal.TheVariants.{Lengths}
use Rattle.windows.specs.declared.Frame.{Frame}
use Rattle.windows.specs.declared.Window.{Window}
use Rattle.windows.specs.Opening.{empty_window}
use Rattle.listing.specs.Ended.{ran_of}

-- a window: centre, radius, amplitude
abbrev pub window_bytes : Window → List ℕ
window_bytes w = single w.center_log2_hz ++ single w.radius_octaves ++ single w.amplitude

unfoldable pub windows_bytes : List Window → List ℕ
windows_bytes ws = joined_all (λ i. window_bytes (get_or ws i empty_window)) 0 192

-- 192 windows, then the activity
unfoldable pub frame_bytes : Frame → List ℕ
frame_bytes f = windows_bytes f.windows ++ single f.activity

-- 5 before the script's own numbers
unfoldable pub entry_answer : List ℕ → List ℕ → Answer
entry_answer s o = pick (eqb (length o) 2308) (ran_of s).answer (Err Lengths)

abbrev pub if_taken : Answer → List ℕ → List ℕ → List ℕ
if_taken (Ok tt) bytes o = bytes
if_taken (Err r) bytes o = o

unfoldable pub entry_bytes : List ℕ → List ℕ → List ℕ
entry_bytes s o = if_taken (entry_answer s o) (frame_bytes (ran_of s).frame) o
