-- `alpha` meets its contract: the callees' answers, put together.
use Rattle.state.specs.Make.{alpha_of}
use Rattle.state.proofs.make.alpha.Goals as goal

pub returns : goal.returns
unfolding alpha_of
returns c = rw c.exp64.ensures
