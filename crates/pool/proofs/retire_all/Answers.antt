-- `retire_all` meets its contract: the loop maps the places one after the other.
use Rattle.sequences.specs.Upto.{mapped_none, mapped_more, mapped_all}
use borrow.Author.Rules.{rules}
use Rattle.pool.proofs.retire_all.Goals as goal

pub loop-p-init : goal.loop-p-init
loop-p-init c = mapped_none _ 64 _ (search rules)

pub loop-p-preserved : goal.loop-p-preserved
loop-p-preserved c = mapped_more c.loop-p.invariant _ _ (search rules) c.retire_one.ensures

pub returns : goal.returns
returns c = mapped_all c.loop-p.invariant (search rules)
