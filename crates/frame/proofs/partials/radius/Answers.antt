-- `radius` meets its contract: the callees' answers, put together.
use Rattle.frame.specs.Windows.{radius_of}
use Rattle.frame.proofs.partials.radius.Goals as goal

pub returns : goal.returns
unfolding radius_of
returns c = rw (c.max-3.ensures, c.log2.ensures, c.max-2.ensures, c.max.ensures)
