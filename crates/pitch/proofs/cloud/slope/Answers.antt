-- `slope` meets its contract.
use Rattle.std.proofs.Common.{rules}
use Rattle.pitch.specs.Cloud.{slope_of}
use Rattle.pitch.proofs.cloud.slope.Goals as goal

pub returns : goal.returns
unfolding slope_of
returns c = search rules
