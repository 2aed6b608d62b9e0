-- `in_ramp` meets its contract.
use Rattle.pitch.specs.Cloud.{in_ramp}
use Rattle.pitch.proofs.cloud.in_ramp.Goals as goal

pub returns : goal.returns
unfolding in_ramp
returns c = rw c.sqrt-root.ensures
