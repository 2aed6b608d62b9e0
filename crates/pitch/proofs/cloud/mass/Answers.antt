-- `mass` meets its contract.
use Rattle.std.proofs.Common.{rules}
use Rattle.pitch.specs.Cloud.{mass_of}
use Rattle.pitch.proofs.cloud.mass.Goals as goal

pub returns : goal.returns
unfolding mass_of
returns c = search rules
