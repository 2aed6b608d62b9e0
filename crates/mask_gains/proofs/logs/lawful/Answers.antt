-- `lawful` meets its contract: the bins below i are lawful.
use mathlib.Core.Path.{refl}
use borrow.Author.Rules.{rules}
use native.Mathlib.Omega.{arith}
use mathlib.Core.Path.{◌∙◌}
use Rattle.mask_gains.proofs.Scanned.{lawful-short, lawful-first, lawful-next, lawful-all}
use Rattle.mask_gains.proofs.logs.lawful.Goals as goal

pub returns-then-logs-lt2 : goal.returns-then-logs-lt2
returns-then-logs-lt2 c = lawful-short _ c.if-logs-lt2.true

pub loop-i-init : goal.loop-i-init
loop-i-init c = (c.is_finite-ok.ensures ∙ lawful-first _, omega arith, search rules)

pub loop-i-preserved : goal.loop-i-preserved
loop-i-preserved c =
    let l = c.loop-i in (
      lawful-next _ l.i l.ok l.invariant.0 _ _ l.invariant.1 c.follows-ok.ensures refl,
      omega (arith, l.invariant.1),
      omega (arith, c.loop-i-test.true),
    )

pub returns : goal.returns
returns c = let l = c.loop-i in lawful-all _ l.i l.ok l.invariant.0 l.invariant.2 c.loop-i-test.false
