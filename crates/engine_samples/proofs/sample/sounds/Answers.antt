-- `sounds` meets its contract: both tests.
use Rattle.std.proofs.Common.{refl}
use Rattle.sequences.specs.Pick.{took, skipped}
use Rattle.engine_samples.proofs.sample.sounds.Goals as goal

pub returns-then-emit : goal.returns-then-emit
returns-then-emit c = took _ _ _ _ c.if-emit.true refl

pub returns-else-emit : goal.returns-else-emit
returns-else-emit c = skipped _ _ _ _ c.if-emit.false refl
