-- `is_misplaced` meets its contract: one test.
use Rattle.script.specs.Field.{misplaced}
use Rattle.script.proofs.is_misplaced.Goals as goal

pub returns-then-first : goal.returns-then-first
unfolding misplaced
returns-then-first c = rw c.if-first.true

pub returns-else-first : goal.returns-else-first
unfolding misplaced
returns-else-first c = rw c.if-first.false
