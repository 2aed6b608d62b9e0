-- `write_masks` is safe and ends: each record moves the walk on.
use Rattle.std.proofs.Common.{◌≡◌, length, sym, refl, ◌∙◌, arith, length-take-le, rules}
use Rattle.mask_files.proofs.Moves.{start-inside, record_moves}
use Rattle.masks.proofs.write_masks.Goals as goal

pub loop-after-init : goal.loop-after-init
loop-after-init c = let a = c.args in (refl, refl, refl, start-inside a.script.now _ c.start-walk.ensures)

pub slice_bounds-write_all-end-in-Record : goal.slice_bounds-write_all-end-in-Record
slice_bounds-write_all-end-in-Record c = sym (length-take-le _ _ (omega (arith, c.if-after-out.false)))

pub loop-after-smaller : goal.loop-after-smaller
loop-after-smaller c =
    let a = c.args in
    let l = c.loop-after in
    let n = c.next_record-step in
    let moves = record_moves l.walk a.script.now l.invariant.3 a.depth_db a.logs.now l.scratch l.out 0 _ n.result n.new.scratch n.new.out n.ensures c.in-Record.is in
    omega (arith, moves.0, moves.1)

pub loop-after-preserved : goal.loop-after-preserved
loop-after-preserved c =
    let a = c.args in
    let l = c.loop-after in
    let n = c.next_record-step in
    let moves = record_moves l.walk a.script.now l.invariant.3 a.depth_db a.logs.now l.scratch l.out 0 _ n.result n.new.scratch n.new.out n.ensures c.in-Record.is in
    let places : length n.new.scratch ≡ length l.scratch = search rules in
    let same : length n.new.out ≡ length l.out = search rules in
    (places ∙ l.invariant.0, same ∙ l.invariant.1, l.invariant.2, moves.1)
