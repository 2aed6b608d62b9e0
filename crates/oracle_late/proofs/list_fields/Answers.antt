-- `list_fields` meets its contract: whatever writes the lines that are left completes the listing.
use mathlib.Core.Path.{◌≡◌, refl, ◌∙◌}
use native.Mathlib.Omega.{arith}
use Rattle.listing.specs.Reaching.{inside_of}
use Rattle.listing.proofs.TurnLaws.{taken-left}
use Rattle.listing.proofs.Written.{written}
use Rattle.oracle_late.proofs.LateText.{stop, go_on}
use Rattle.oracle_late.proofs.list_fields.Goals as goal

pub loop-turn-init : goal.loop-turn-init
loop-turn-init c =
    let pre = c.requires in
    (pre.0, pre.1, pre.2, refl, λ p r h. h)

pub shape_of-out-then-k-eq0 : goal.shape_of-out-then-k-eq0
shape_of-out-then-k-eq0 c = (written c.one_turn-turn.result.line c.put_line-w.ensures).same ∙ c.loop-turn.invariant.3

pub returns-then-k-eq0 : goal.returns-then-k-eq0
returns-then-k-eq0 c =
    let l = c.loop-turn in
    let a = c.args in
    let t = c.one_turn-turn.result in
    let here : inside_of l.at a.script.now ≡ l.at = omega (arith, l.invariant.0) in
    let eq = rw here at c.one_turn-turn.ensures in
    let put = written t.line c.put_line-w.ensures in
    stop a.start a.script.now a.out.now a.w _ l.out _ l.run l.n l.at l.w _ t
    l.invariant.1 l.invariant.2 l.invariant.0 l.invariant.4 eq put c.if-k-eq0.true

pub overflow_add-at : goal.overflow_add-at
overflow_add-at c =
    let l = c.loop-turn in
    let a = c.args in
    let t = c.one_turn-turn.result in
    let here : inside_of l.at a.script.now ≡ l.at = omega (arith, l.invariant.0) in
    let eq = rw here at c.one_turn-turn.ensures in
    let le = taken-left l.run l.n l.at a.script.now t eq in
    omega (arith, le, c.well_formed.1.1.1.1.1.0)

pub overflow_add-n : goal.overflow_add-n
overflow_add-n c =
    let l = c.loop-turn in
    omega (arith, l.invariant.0, l.invariant.2, c.well_formed.1.1.1.1.1.0)

pub loop-turn-smaller : goal.loop-turn-smaller
loop-turn-smaller c =
    let l = c.loop-turn in
    let a = c.args in
    let t = c.one_turn-turn.result in
    let here : inside_of l.at a.script.now ≡ l.at = omega (arith, l.invariant.0) in
    let eq = rw here at c.one_turn-turn.ensures in
    let le = taken-left l.run l.n l.at a.script.now t eq in
    omega (arith, le, c.if-k-eq0.false)

pub loop-turn-preserved : goal.loop-turn-preserved
loop-turn-preserved c =
    let l = c.loop-turn in
    let a = c.args in
    let t = c.one_turn-turn.result in
    let here : inside_of l.at a.script.now ≡ l.at = omega (arith, l.invariant.0) in
    let eq = rw here at c.one_turn-turn.ensures in
    let le = taken-left l.run l.n l.at a.script.now t eq in
    let go = c.if-k-eq0.false in
    let put = written t.line c.put_line-w.ensures in (
      omega (arith, le),
      omega arith,
      omega (arith, go),
      put.same ∙ l.invariant.3,
      go_on a.start a.script.now a.out.now a.w _ l.out _ l.run l.n l.at l.w _ t
          l.invariant.1 l.invariant.2 l.invariant.0 l.invariant.4 eq put go c.after-run.ensures,
    )
