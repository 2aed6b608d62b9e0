-- `fill` meets its contract: an entry for each bin.
use Rattle.sequences.specs.Table.{filled_none, filled_more, filled-all}
use borrow.Author.Rules.{rules}
use Rattle.mask_records.proofs.entry.fill.Goals as goal

pub loop-i-init : goal.loop-i-init
loop-i-init c = filled_none _ _ _ c.requires.1

pub loop-i-preserved : goal.loop-i-preserved
loop-i-preserved c = filled_more c.loop-i.invariant _ (search rules) (cc)

pub returns : goal.returns
returns c = filled-all c.loop-i.invariant (search rules)
