-- `rk_script` meets its contract: the entry's answer by its number, and the entry's bytes.
use mathlib.Core.Path.{ap, ◌∙◌}
use native.Mathlib.Omega.{arith}
use Rattle.refusals.specs.Numbers.{answer_of}
use Rattle.host.proofs.Small.{answer_small}
use Rattle.host.proofs.rk_script.Goals as goal

pub overflow_cast-result : goal.overflow_cast-result
overflow_cast-result c = let h = answer_small c.last_frame-answer.result in omega (arith, h, c.answer_number.ensures)

pub returns : goal.returns
returns c =
    let e = c.last_frame-answer.ensures in
    (c.answer_number.ensures ∙ ap answer_of e.0, e.1)
