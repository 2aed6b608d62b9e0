-- `take_frame` meets its contract: one test, and refusal 7 where it fails.
use Rattle.std.proofs.Common.{◌≡◌, Ok, Err, sym, ap, ◌∙◌}
use Rattle.sequences.specs.Pick.{picked, passed}
use Rattle.refusals.specs.Numbers.{Answer}
use Rattle.refusals.specs.declared.Refusal.TheVariants.{Seconds}
use Rattle.windows.specs.declared.Frame.{Frame}
use Rattle.frame.specs.declared.Framed.{Framed}
use Rattle.frame.specs.Call.{taken_of, refused_of, framed_of, shown_by}
use Rattle.frame.proofs.take_frame.Goals as goal

pub returns-then-not-accepts : goal.returns-then-not-accepts
unfolding framed_of refused_of
returns-then-not-accepts c =
    let a = c.args in
    let refused : Answer = Err Seconds in
    let f : refused_of a.engine.now ≡ framed_of a.engine.now a.bin_hz a.elapsed_seconds = passed _ _ _ (sym c.accepts.ensures ∙ c.if-not-accepts.true) in
    record { answer = ap (λ (x : Frame). (x, refused)) c.default.ensures ∙ ap shown_by f; engine = ap (λ (x : Framed). x.engine) f }

pub returns : goal.returns
unfolding framed_of taken_of
returns c =
    let a = c.args in
    let took : Answer = Ok tt in
    let f : taken_of a.engine.now a.bin_hz a.elapsed_seconds ≡ framed_of a.engine.now a.bin_hz a.elapsed_seconds = picked _ _ _ (sym c.accepts.ensures ∙ c.if-not-accepts.false) in
    record { answer = ap (λ (x : Frame). (x, took)) c.take.ensures.frame ∙ ap shown_by f; engine = c.take.ensures.engine ∙ ap (λ (x : Framed). x.engine) f }
