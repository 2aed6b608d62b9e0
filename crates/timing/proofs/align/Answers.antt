-- `align` meets its contract: the callees' answers, put together.
use Rattle.timing.specs.Streams.{aligned_of}
use Rattle.timing.proofs.align.Goals as goal

pub returns : goal.returns
unfolding aligned_of
returns c = rw (c.skip.ensures, c.skip-once.ensures, c.at-stream.ensures, c.group.ensures)
