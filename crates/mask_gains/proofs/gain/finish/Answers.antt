-- `finish` meets its contract: a gain for each bin.
use borrow.Author.Rules.{rules}
use mathlib.Core.Path.{sym}
use Rattle.sequences.specs.Table.{filled_none, filled_more, filled-all}
use Rattle.mask_gains.proofs.gain.finish.Goals as goal

pub loop-i-init : goal.loop-i-init
loop-i-init c = filled_none _ _ _ (sym c.requires.0)

pub loop-i-preserved : goal.loop-i-preserved
loop-i-preserved c = filled_more c.loop-i.invariant _ (search rules) c.gain.ensures

pub returns : goal.returns
returns c = filled-all c.loop-i.invariant (search rules)
