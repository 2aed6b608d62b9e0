-- The bytes of a frame: how many, the activity behind the windows, and a room that they just fill.
use Prim.Native.Nat.{ℕ, ◌+◌, ◌≤◌}
use mathlib.Core.Path.{◌≡◌, refl, ap, ◌∙◌}
use mathlib.Core.List.{List, [], ◌++◌, append-nil}
use native.Mathlib.Omega.{arith}
use lib.ListN.{length, drop, length-append, drop_of_length-le}
use borrow.Author.Tests.{le-leb}
use Rattle.text.specs.Put.{Put, buffer_of}
use Rattle.text.proofs.Laws.{seq}
use Rattle.text.proofs.Joined.{joined_length}
use Rattle.big_endian.specs.Bytes.{single}
use Rattle.windows.specs.declared.Frame.{Frame}
use Rattle.windows.specs.declared.Window.{Window}
use Rattle.entry.specs.Entry.{windows_bytes, frame_bytes}

windows_length : (ws : List Window) → length (windows_bytes ws) ≡ 2304
unfolding windows_bytes
windows_length ws = joined_length _ 12 (λ i. refl) 0 192

pub frame_length : (f : Frame) → length (frame_bytes f) ≡ 2308
unfolding frame_bytes
frame_length f = rw (length-append, windows_length)

-- the activity behind the windows
pub both-parts : (f : Frame) {o p q : List ℕ} {at r t : ℕ} → Put o p at r (windows_bytes f.windows) → Put p q r t (single f.activity) → Put o q at t (frame_bytes f)
unfolding frame_bytes
both-parts f a b = seq a b

-- a frame put where it just fits
pub whole_room : (o : List ℕ) (f : Frame) → length o ≡ 2308 → buffer_of o 0 (frame_bytes f) ≡ frame_bytes f
unfolding buffer_of
whole_room o f h =
    let w = frame_bytes f in
    let fits : 0 + length w ≤ length o = omega (arith, frame_length f) in
    let behind : drop (0 + length w) o ≡ [] = drop_of_length-le o {i = 0 + length w} (omega (arith, frame_length f)) in
    rw (le-leb _ _ fits) (ap (λ (r : List ℕ). w ++ r) behind ∙ append-nil w)
