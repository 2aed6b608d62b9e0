-- `emit` meets its contract: the callees' answers, put together.
use Rattle.timing.specs.Starts.{emit_of}
use Rattle.timing.proofs.starts.emit.Goals as goal

pub returns : goal.returns
unfolding emit_of
returns c = rw (c.count-n.ensures, c.random.ensures)
