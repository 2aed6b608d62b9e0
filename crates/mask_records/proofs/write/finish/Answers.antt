-- `finish` meets its contract: by what `all_numbers` and `put_record` answered.
use Rattle.std.proofs.lemmas.Result.{err_from_is_err_and}
use mathlib.Core.Path.{sym, ◌∙◌}
use Rattle.mask_records.specs.Finished.{filled_of}
use Rattle.mask_records.proofs.Answers.{finished_nan, finished_placed, finished_refused}
use Rattle.mask_records.proofs.write.finish.Goals as goal

pub returns-in_err-after : goal.returns-in_err-after
unfolding filled_of
returns-in_err-after c =
    let p = err_from_is_err_and c.from_residual.result c.from_residual.ensures.1 in
    rw (p.1, p.2) (finished_refused _ _ _ _ _ _ _ _ _ (sym c.all_numbers.ensures ∙ c.if-all_numbers.true) c.fill.ensures c.put_record.ensures _ c.in_err-after.was)

pub returns-then-all_numbers : goal.returns-then-all_numbers
unfolding filled_of
returns-then-all_numbers c = finished_placed _ _ _ _ _ _ _ _ _ (sym c.all_numbers.ensures ∙ c.if-all_numbers.true) c.fill.ensures c.put_record.ensures _ _ c.in_ok-after.was c.hand_over.ensures

pub returns : goal.returns
returns c = finished_nan _ _ _ _ _ _ (sym c.all_numbers.ensures ∙ c.if-all_numbers.false)
