-- `mean` meets its contract: the sum over the number of entries.
use Rattle.picture.specs.Rows.{mean_of}
use Rattle.picture.proofs.rows.mean.Goals as goal

pub returns : goal.returns
unfolding mean_of
returns c = cc
