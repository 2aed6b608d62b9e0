-- `put_frame` meets its contract: two tests of the room, then the windows and the activity.
use native.Mathlib.Omega.{arith}
use Rattle.text.proofs.Laws.{no_room, with_room, piece}
use Rattle.entry.specs.Entry.{frame_bytes}
use Rattle.entry.proofs.FrameBytes.{frame_length, both-parts}
use Rattle.entry.proofs.put_frame.Goals as goal

pub returns-then-out-at : goal.returns-then-out-at
returns-then-out-at c =
    let a = c.args in
    no_room a.out.now a.at (frame_bytes a.frame) (omega (arith, c.if-out-at.true, frame_length a.frame))

pub returns-then-out-at-lt-FRAME_BYTES : goal.returns-then-out-at-lt-FRAME_BYTES
returns-then-out-at-lt-FRAME_BYTES c =
    let a = c.args in
    no_room a.out.now a.at (frame_bytes a.frame) (omega (arith, c.if-out-at.false, c.if-out-at-lt-FRAME_BYTES.true, frame_length a.frame))

pub returns : goal.returns
returns c =
    let a = c.args in
    let activity = rw c.single-activity.ensures at (piece c.put.ensures) in
    with_room
    (omega (arith, c.if-out-at.false, c.if-out-at-lt-FRAME_BYTES.false, frame_length a.frame))
    (both-parts a.frame c.put_windows-at.ensures activity)
