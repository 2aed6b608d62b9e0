-- `align_streams` meets its contract: the callees' answers, put together.
use Rattle.engine_changes.specs.Changes.{aligned}
use Rattle.engine_changes.proofs.align_streams.Goals as goal

pub returns : goal.returns
unfolding aligned
returns c = rw c.align_streams-engine.ensures
