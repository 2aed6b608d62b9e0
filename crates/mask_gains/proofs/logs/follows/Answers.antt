-- `follows` meets its contract: the two tests.
use Rattle.mask_gains.proofs.logs.follows.Goals as goal

pub returns : goal.returns
returns c = cc
