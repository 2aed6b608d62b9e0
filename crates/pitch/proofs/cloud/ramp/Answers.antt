-- `ramp` meets its contract: the logarithm of 440 is computed once.
use Rattle.pitch.proofs.Logs.{log_of_full}
use Rattle.pitch.specs.Cloud.{ramp_of}
use Rattle.pitch.proofs.cloud.ramp.Goals as goal

pub returns : goal.returns
unfolding ramp_of
returns c = rw log_of_full
