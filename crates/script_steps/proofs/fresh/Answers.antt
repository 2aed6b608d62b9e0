-- `fresh` meets its contract: the callees' answers, put together.
use Rattle.script_steps.specs.Steps.{fresh}
use Rattle.script_steps.proofs.fresh.Goals as goal

pub returns : goal.returns
unfolding fresh
returns c = rw (c.default.ensures, c.new_engine-made.ensures)
