-- `offset` meets its contract: one test.
use Rattle.std.proofs.Common.{refl, eq-eqb, ne_eqb}
use Rattle.sequences.specs.Pick.{took, skipped}
use Rattle.engine_changes.specs.Changes.{offset}
use Rattle.engine_changes.proofs.offset.Goals as goal

pub returns-then-engine-eq0 : goal.returns-then-engine-eq0
unfolding offset
returns-then-engine-eq0 c = took _ _ _ _ (eq-eqb _ _ c.if-engine-eq0.true) (rw c.from-engine.ensures)

pub returns-else-engine-eq0 : goal.returns-else-engine-eq0
unfolding offset
returns-else-engine-eq0 c = skipped _ _ _ _ (ne_eqb _ _ c.if-engine-eq0.false) refl
