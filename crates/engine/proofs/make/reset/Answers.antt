-- `reset` meets its contract: the callees' answers, put together.
use Rattle.engine.specs.New.{reset_of}
use Rattle.engine.proofs.make.reset.Goals as goal

pub returns : goal.returns
unfolding reset_of
returns c = c.from_prepared.ensures
