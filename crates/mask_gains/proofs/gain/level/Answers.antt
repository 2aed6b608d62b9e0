-- `level` meets its contract: the callee's answer.
use Rattle.mask_gains.specs.Gains.{level_of}
use Rattle.mask_gains.proofs.gain.level.Goals as goal

pub returns : goal.returns
unfolding level_of
returns c = cc
