-- `walk` meets its contract: the windows in order.
use borrow.Author.Rules.{rules}
use mathlib.Core.Path.{sym, ap, ◌∙◌}
use lib.ListN.{length}
use Rattle.sequences.specs.Table.{length_table}
use Rattle.mask_gains.proofs.Raising.{numbers_raised, numbers_blank}
use Rattle.mask_gains.proofs.Opens.{opened-none, opened-more, opened-all}
use Rattle.mask_gains.proofs.touch.walk.Goals as goal

pub loop-w-init : goal.loop-w-init
loop-w-init c = (opened-none _ _ _ (search rules) c.requires.0, numbers_blank _ _ c.requires.0)

pub touch-requires : goal.touch-requires
touch-requires c = (sym c.loop-w.invariant.0.same, c.requires.1, c.loop-w.invariant.1)

pub loop-w-preserved : goal.loop-w-preserved
loop-w-preserved c =
    let l = c.loop-w in
    let r = c.touch.ensures in
    (opened-more _ _ _ _ _ _ l.invariant.0 c.loop-w-test.true r, numbers_raised _ _ _ _ r l.invariant.1)

pub shape_of-scratch : goal.shape_of-scratch
shape_of-scratch c = c.loop-w.invariant.0.same ∙ sym (ap length c.requires.0 ∙ length_table _ _)

pub returns : goal.returns
returns c = opened-all _ _ _ _ c.loop-w.invariant.0 c.loop-w-test.false
