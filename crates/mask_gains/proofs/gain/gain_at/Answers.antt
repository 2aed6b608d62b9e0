-- `gain_at` meets its contract: the callee's answer.
use Rattle.mask_gains.specs.Gains.{gain_of}
use Rattle.mask_gains.proofs.gain.gain_at.Goals as goal

pub returns : goal.returns
unfolding gain_of
returns c = c.db_to_gain.ensures
