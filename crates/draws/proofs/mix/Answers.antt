-- `mix` meets its contract: the callees' answers, put together.
use Rattle.draws.specs.Draws.{mix_of}
use Rattle.draws.proofs.mix.Goals as goal

pub returns : goal.returns
unfolding mix_of
returns c = cc
