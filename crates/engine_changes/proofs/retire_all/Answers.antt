-- `retire_all` meets its contract: the callees' answers, put together.
use Rattle.engine_changes.specs.Changes.{retired_all}
use Rattle.engine_changes.proofs.retire_all.Goals as goal

pub returns : goal.returns
unfolding retired_all
returns c = rw c.retire_all-engine.ensures
