-- `ratio` meets its contract: the callees' answers, put together.
use Rattle.births.specs.Births.{ratio_of}
use Rattle.births.proofs.ratio.Goals as goal

pub returns : goal.returns
unfolding ratio_of
returns c = rw (c.exp2.ensures, c.log2.ensures)
