-- `opportunity_after` meets its contract: the larger of the two.
use Rattle.std.proofs.Common.{refl, le-ltb, lt-ltb}
use Rattle.sequences.specs.Pick.{took, skipped}
use Rattle.engine_samples.specs.Sample.{opportunity_after}
use Rattle.timing.specs.Streams.{larger}
use Rattle.engine_samples.proofs.sample.opportunity_after.Goals as goal

pub returns-then-after-whole : goal.returns-then-after-whole
unfolding opportunity_after larger
returns-then-after-whole c = rw (← c.floor.ensures, ← c.max.ensures, ← c.to_u64-whole.ensures) (took _ _ _ _ (lt-ltb _ _ c.if-after-whole.true) refl)

pub returns : goal.returns
unfolding opportunity_after larger
returns c = rw (← c.floor.ensures, ← c.max.ensures, ← c.to_u64-whole.ensures) (skipped _ _ _ _ (le-ltb _ _ c.if-after-whole.false) refl)
