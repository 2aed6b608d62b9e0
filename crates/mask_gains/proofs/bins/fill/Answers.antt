-- `fill` meets its contract: a logarithm for each bin.
use mathlib.Core.Path.{refl}
use Rattle.sequences.specs.Table.{filled_none, filled_more, filled-all}
use Rattle.mask_gains.specs.Bins.{logs_of}
use Rattle.mask_gains.proofs.bins.fill.Goals as goal

pub loop-bin-init : goal.loop-bin-init
loop-bin-init c = filled_none _ _ _ refl

pub loop-bin-preserved : goal.loop-bin-preserved
loop-bin-preserved c = filled_more c.loop-bin.invariant _ c.loop-bin-test.true c.log_at.ensures

pub returns : goal.returns
unfolding logs_of
returns c = filled-all c.loop-bin.invariant c.loop-bin-test.false
