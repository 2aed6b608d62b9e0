-- `nothing_due` meets its contract: one test after the other.
use Rattle.sequences.specs.Pick.{took, skipped}
use Rattle.engine_samples.specs.Waiting.{nothing_due}
use Rattle.std.proofs.Common.{refl}
use Rattle.engine_samples.proofs.waiting.nothing_due.Goals as goal

pub returns-then-reference-starts-2 : goal.returns-then-reference-starts-2
unfolding nothing_due
returns-then-reference-starts-2 c = took _ _ _ _ c.if-reference-starts.true (took _ _ _ _ c.if-reference-starts-2.true refl)

pub returns-else-reference-starts-2 : goal.returns-else-reference-starts-2
unfolding nothing_due
returns-else-reference-starts-2 c = took _ _ _ _ c.if-reference-starts.true (skipped _ _ _ _ c.if-reference-starts-2.false refl)

pub returns-else-reference-starts : goal.returns-else-reference-starts
unfolding nothing_due
returns-else-reference-starts c = skipped _ _ _ _ c.if-reference-starts.false refl
