-- `raise` meets its contract: a range of bins.
use borrow.Author.Rules.{rules}
use native.Mathlib.Omega.{arith}
use Prim.Native.Nat.{ℕ, ◌<◌}
use mathlib.Core.Path.{◌≡◌, sym, ap, ◌∙◌, subst}
use mathlib.Core.Bool.{not}
use lib.Dec.{T}
use lib.ListN.{length, get_or}
use lib.Ieee.{Float, nan, is_nan}
use Rattle.floats.specs.Choose.{max}
use Rattle.mask_gains.specs.Walk.{Part}
use Rattle.mask_gains.proofs.Raising.{one_test}
use Rattle.mask_gains.proofs.Ranges.{part_none, part-more}
use Rattle.mask_gains.proofs.touch.raise.Goals as goal

pub loop-i-init : goal.loop-i-init
loop-i-init c = (part_none _ _ _ _, search rules)

pub loop-i-preserved : goal.loop-i-preserved
loop-i-preserved c =
    let l = c.loop-i in
    let t = c.loop-i-test.true in
    let h : l.i < length c.args.scratch.now = omega (arith, c.requires, t) in
    let u = subst (λ (x : Float). T (not (is_nan x))) (sym (l.invariant.0.over l.i (omega arith))) (c.requires.3 l.i h) in
    (part-more _ _ _ _ l.i l.scratch _ l.invariant.0 h (c.pick.ensures ∙ one_test (get_or l.scratch l.i nan) _ u ∙ ap (max (get_or l.scratch l.i nan)) c.openness-v.ensures), omega (arith, t))

pub returns : goal.returns
returns c =
    let l = c.loop-i in
    let s = c.args in
    let e : l.i ≡ s.end = omega (arith, c.loop-i-test.false, l.invariant.1) in
    subst (λ (k : ℕ). Part s.w s.logs.now s.scratch.now s.start k l.scratch) e l.invariant.0
