-- `last_frame` meets its contract: a way out for each answer.
use Rattle.std.specs.Prelude.{Ok}
use Rattle.std.proofs.lemmas.Result.{err_from_is_err_and}
use mathlib.Core.Path.{◌∙◌}
use Rattle.entry.proofs.FrameBytes.{whole_room}
use Rattle.entry.proofs.Ways.{lengths, ran}
use Rattle.entry.proofs.last_frame.Goals as goal

pub returns-then-out-ne-FRAME_BYTES : goal.returns-then-out-ne-FRAME_BYTES
returns-then-out-ne-FRAME_BYTES c =
    let a = c.args in
    lengths a.script.now a.out.now c.if-out-ne-FRAME_BYTES.true

pub returns-in_err-ended : goal.returns-in_err-ended
returns-in_err-ended c =
    let a = c.args in
    let ended = c.run_script-ended in
    let p = err_from_is_err_and c.from_residual.result c.from_residual.ensures.1 in
    rw (p.1, p.2) (ran a.script.now a.out.now ended.result _ c.if-out-ne-FRAME_BYTES.false ended.ensures c.in_err-ended.was)

pub returns : goal.returns
returns c =
    let a = c.args in
    let ended = c.run_script-ended in
    let room = c.if-out-ne-FRAME_BYTES.false in
    let r = ran a.script.now a.out.now ended.result (Ok tt) room ended.ensures c.in_ok-ended.was in
    (r.0, c.put_frame.ensures.1 ∙ whole_room a.out.now ended.result.frame room ∙ r.1)
