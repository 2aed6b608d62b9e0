-- `counted` meets its contract: one test.
use borrow.Author.Tests.{eq-eqb, ne_eqb}
use Rattle.sequences.specs.Pick.{pick}
use Rattle.oracle_late.specs.Late.{counted_of}
use Rattle.oracle_late.proofs.counted.Goals as goal

pub returns-else-start-ne0 : goal.returns-else-start-ne0
unfolding counted_of pick
returns-else-start-ne0 c = rw (eq-eqb _ _ c.if-start-ne0.false)

pub returns-then-start-ne0 : goal.returns-then-start-ne0
unfolding counted_of pick
returns-then-start-ne0 c = rw (ne_eqb _ _ c.if-start-ne0.true)
