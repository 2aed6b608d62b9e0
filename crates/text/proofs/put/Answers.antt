-- `put` meets its contract: the piece stands in the place of the bytes that it was copied over.
use Rattle.std.proofs.Common.{arith}
use Rattle.text.proofs.Laws.{no_room, placed}
use Rattle.text.proofs.put.Goals as goal
use Rattle.text.proofs.put.Goals.{then-out-at-via-then-out-at, then-out-at-via-else-out-at+then-out-at-2}

pub returns-then-out-at : goal.returns-then-out-at
returns-then-out-at c =
    let a = c.args in
    no_room a.out.now a.at a.w.now (elim c.then-out-at.branch [ then-out-at-via-then-out-at w ↦ omega (arith, w.if-out-at.true) | then-out-at-via-else-out-at+then-out-at-2 w ↦ omega (arith, w.if-out-at.false, w.if-out-at-2.true) ])

pub returns : goal.returns
returns c =
    let a = c.args in
    placed a.out.now a.at a.w.now c.copy_from_slice.ensures.after (omega (arith, c.if-out-at.false, c.if-out-at-2.false))
