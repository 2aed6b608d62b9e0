-- `start` meets its contract: the callees' answers, put together.
use Rattle.timing.specs.Starts.{start_of}
use Rattle.timing.proofs.starts.start.Goals as goal

pub returns : goal.returns
unfolding start_of
returns c = rw (c.from.ensures, c.floor-step.ensures, c.random.ensures)
