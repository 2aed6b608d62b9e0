-- `weights` meets its contract: the loop fills the table.
use Rattle.std.proofs.Common.{rules}
use Rattle.sequences.specs.Table.{filled_none, filled_more, filled-all}
use Rattle.state.specs.Make.{weights_of}
use Rattle.state.proofs.make.weights.Goals as goal

pub loop-i-init : goal.loop-i-init
loop-i-init c = filled_none _ 24 _ (search rules)

pub loop-i-preserved : goal.loop-i-preserved
loop-i-preserved c = filled_more c.loop-i.invariant _ (search rules) c.db_to_gain.ensures

pub returns : goal.returns
unfolding weights_of
returns c = filled-all c.loop-i.invariant (search rules)
