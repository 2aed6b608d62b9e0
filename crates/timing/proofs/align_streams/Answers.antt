-- `align_streams` meets its contract: the callees' answers, put together.
use Rattle.timing.specs.Streams.{aligned_all}
use Rattle.timing.proofs.align_streams.Goals as goal

pub returns : goal.returns
unfolding aligned_all
returns c = rw (c.align-3.ensures, c.align-2.ensures, c.align.ensures)
