-- `became` meets its contract: whether `dropped` grew.
use Rattle.std.proofs.Common.{refl, eq-eqb, ne_eqb}
use Rattle.sequences.specs.Pick.{took, skipped}
use Rattle.engine_triggers.proofs.became.Goals as goal

pub returns-then-after-before : goal.returns-then-after-before
returns-then-after-before c = took _ _ _ _ (eq-eqb _ _ c.if-after-before.true) refl

pub returns-else-after-before : goal.returns-else-after-before
returns-else-after-before c = skipped _ _ _ _ (ne_eqb _ _ c.if-after-before.false) refl
