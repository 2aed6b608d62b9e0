-- `next_starts` meets its contract: a case for each shape, where births are scheduled.
use Rattle.sequences.specs.Pick.{took, skipped}
use Rattle.engine_samples.specs.Waiting.{starts_of, shape_starts}
use Rattle.engine_samples.proofs.waiting.next_starts.Goals as goal

pub returns-in-Sprinkle : goal.returns-in-Sprinkle
unfolding starts_of shape_starts
returns-in-Sprinkle c = took _ _ _ _ c.if-config.true (rw (c.starts_at.ensures, c.in-Sprinkle.is))

pub returns-in-Cloud : goal.returns-in-Cloud
unfolding starts_of shape_starts
returns-in-Cloud c = took _ _ _ _ c.if-config.true (rw (c.starts_at-in-Cloud.ensures, c.timing_reference-next.ensures, c.in-Cloud.is))

pub returns : goal.returns
unfolding starts_of
returns c = skipped _ _ _ _ c.if-config.false (rw (c.starts_at-2.ensures, c.of_bits-never.ensures))
