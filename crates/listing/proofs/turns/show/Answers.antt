-- `show` meets its contract: the values of an accepted frame, or its refusal.
use Rattle.std.proofs.Common.{sym, ap, ◌∙◌, Some, Ok}
use Rattle.refusals.specs.Numbers.{Answer}
use Rattle.windows.specs.declared.Frame.{Frame}
use Rattle.script_steps.specs.declared.values.Values.{Values}
use Rattle.script_steps.specs.Steps.{frame_step_of}
use Rattle.listing.proofs.Fields.{left, by-frame}
use Rattle.listing.proofs.turns.show.Goals as goal

pub returns-in-Ok : goal.returns-in-Ok
returns-in-Ok c =
    let run = c.args.run.now in
    let e = c.take_frame-answer.new.engine in
    let f = c.take_frame-answer.result.0 in
    let told = c.take_frame-answer.ensures in
    ap (λ (v : Values). left (record { engine = e; frame = f }) (Ok (Some v))) c.values_of.ensures
    ∙ ap (frame_step_of run e f) (sym c.in-Ok.is)
    ∙ by-frame run e _ f _ (ap (λ (x : Frame × Answer). x.0) told.answer) (ap (λ (x : Frame × Answer). x.1) told.answer) told.engine

pub returns-in-Err : goal.returns-in-Err
returns-in-Err c =
    let run = c.args.run.now in
    let e = c.take_frame-answer.new.engine in
    let f = c.take_frame-answer.result.0 in
    let told = c.take_frame-answer.ensures in
    ap (frame_step_of run e f) (sym c.in-Err.is) ∙ by-frame run e _ f _ (ap (λ (x : Frame × Answer). x.0) told.answer) (ap (λ (x : Frame × Answer). x.1) told.answer) told.engine
