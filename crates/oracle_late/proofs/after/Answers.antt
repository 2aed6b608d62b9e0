-- `after` meets its contract: one test.
use borrow.Author.Tests.{eq-eqb, ne_eqb}
use Rattle.sequences.specs.Pick.{pick}
use Rattle.oracle_late.specs.Late.{run_after}
use Rattle.oracle_late.proofs.after.Goals as goal

pub returns-then-n-eq1 : goal.returns-then-n-eq1
unfolding run_after pick
returns-then-n-eq1 c = rw (eq-eqb _ _ c.if-n-eq1.true) c.counted.ensures

pub returns : goal.returns
unfolding run_after pick
returns c = rw (ne_eqb _ _ c.if-n-eq1.false)
