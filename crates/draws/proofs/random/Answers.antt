-- `random` meets its contract: the callees' answers, put together.
use Rattle.draws.specs.Draws.{random_of, drawn_of}
use Rattle.draws.proofs.random.Goals as goal

pub returns : goal.returns
unfolding random_of drawn_of
returns c = cc
