-- `new_stream` meets its contract: the callee's answer.
use Rattle.timing.specs.Streams.{new_of}
use Rattle.timing.proofs.new_stream.Goals as goal

pub returns : goal.returns
unfolding new_of
returns c = rw c.at.ensures
