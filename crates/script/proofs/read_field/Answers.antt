-- `read_field` meets its contract: no bytes, or a header.
use Rattle.script.specs.Field.{read_of}
use borrow.Author.Tests.{eq-eqb}
use Rattle.script.proofs.read_field.Goals as goal

pub returns-then-first : goal.returns-then-first
unfolding read_of
returns-then-first c = rw (eq-eqb _ _ c.if-script-eq0.true, c.if-first.true)

pub returns-else-first : goal.returns-else-first
unfolding read_of
returns-else-first c = rw (eq-eqb _ _ c.if-script-eq0.true, c.if-first.false)

pub returns : goal.returns
returns c = c.read_header.ensures
