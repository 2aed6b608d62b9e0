-- `human` meets its contract: the callees' answers, put together.
use Rattle.timing.specs.Starts.{human_of}
use Rattle.timing.proofs.starts.human.Goals as goal

pub returns : goal.returns
unfolding human_of
returns c = rw (c.pick.ensures, c.from.ensures, c.random-draw.ensures)
