-- `retire_bound` meets its contract: the loop maps the places one after the other.
use Rattle.sequences.specs.Upto.{mapped_none, mapped_more, mapped_all}
use borrow.Author.Rules.{rules}
use Rattle.pool.proofs.retire_bound.Goals as goal

pub loop-i-init : goal.loop-i-init
loop-i-init c = mapped_none _ 64 _ (search rules)

pub loop-i-preserved : goal.loop-i-preserved
loop-i-preserved c = mapped_more c.loop-i.invariant _ _ (search rules) c.retire_bound_one.ensures

pub returns : goal.returns
returns c = mapped_all c.loop-i.invariant (search rules)
