-- `skip` meets its contract: one test.
use Rattle.sequences.specs.Pick.{picked, passed}
use Rattle.timing.specs.Streams.{skipped_of}
use Rattle.timing.proofs.skip.Goals as goal

pub returns-then-stream-reference : goal.returns-then-stream-reference
unfolding skipped_of
returns-then-stream-reference c = rw c.at.ensures (picked _ _ _ c.if-stream-reference.true)

pub returns : goal.returns
unfolding skipped_of
returns c = passed _ _ _ c.if-stream-reference.false
