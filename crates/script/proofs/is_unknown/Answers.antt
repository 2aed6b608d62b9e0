-- `is_unknown` meets its contract: one test.
use Rattle.script.specs.Field.{unknown}
use borrow.Author.Tests.{eq-eqb, ne_eqb}
use Rattle.script.proofs.is_unknown.Goals as goal

pub returns-then-tag-eq0 : goal.returns-then-tag-eq0
unfolding unknown
returns-then-tag-eq0 c = rw (eq-eqb _ _ c.if-tag-eq0.true)

pub returns-else-tag-eq0 : goal.returns-else-tag-eq0
unfolding unknown
returns-else-tag-eq0 c = rw (ne_eqb _ _ c.if-tag-eq0.false)
