-- `gap` meets its contract: the callees' answers, put together.
use Rattle.timing.specs.Starts.{gap_of}
use Rattle.timing.proofs.starts.gap.Goals as goal

pub returns : goal.returns
unfolding gap_of
returns c = rw (c.from.ensures, c.floor-step.ensures, c.random.ensures)
