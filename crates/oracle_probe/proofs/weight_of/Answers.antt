-- `weight_of` meets its contract: the callees' answers, put together.
use Rattle.oracle_probe.specs.Numbers.{weight_from}
use Rattle.oracle_probe.proofs.weight_of.Goals as goal

pub returns : goal.returns
unfolding weight_from
returns c = cc
