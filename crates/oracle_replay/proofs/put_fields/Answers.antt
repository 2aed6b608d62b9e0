-- `put_fields` meets its contract: whatever writes what the fields that are left leave completes it all.
use mathlib.Core.Path.{◌≡◌, refl, ◌∙◌}
use native.Mathlib.Omega.{arith}
use Rattle.script.proofs.Part.{rest}
use Rattle.text.proofs.Laws.{row, whole}
use Rattle.listing.specs.Reaching.{inside_of}
use Rattle.listing.proofs.TurnLaws.{taken-left}
use Rattle.oracle_replay.proofs.Left.{stop, go_on}
use Rattle.oracle_replay.proofs.put_fields.Goals as goal

pub loop-run-init : goal.loop-run-init
loop-run-init c =
    let pre = c.requires in
    (pre.0, pre.1, pre.2, refl, λ p r h. h)

pub shape_of-out-then-k-eq0 : goal.shape_of-out-then-k-eq0
shape_of-out-then-k-eq0 c = c.loop-run.invariant.3

pub returns-then-k-eq0 : goal.returns-then-k-eq0
returns-then-k-eq0 c =
    let l = c.loop-run in
    let a = c.args in
    let t = c.one_turn-turn.result in
    let here : inside_of l.at a.script.now ≡ l.at = omega (arith, l.invariant.0) in
    let eq = rw here at c.one_turn-turn.ensures in
    stop a.start a.script.now a.out.now a.w _ l.out l.run l.n l.at l.w t
    l.invariant.1 l.invariant.2 l.invariant.0 l.invariant.4 eq c.if-k-eq0.true

pub slice_bounds-answer-count : goal.slice_bounds-answer-count
slice_bounds-answer-count c = omega arith

pub slice_bounds-answer-start : goal.slice_bounds-answer-start
slice_bounds-answer-start c = omega arith

pub slice_bounds-answer-end : goal.slice_bounds-answer-end
slice_bounds-answer-end c = omega arith

pub overflow_add-at : goal.overflow_add-at
overflow_add-at c =
    let l = c.loop-run in
    let a = c.args in
    let t = c.one_turn-turn.result in
    let here : inside_of l.at a.script.now ≡ l.at = omega (arith, l.invariant.0) in
    let eq = rw here at c.one_turn-turn.ensures in
    let le = taken-left l.run l.n l.at a.script.now t eq in
    omega (arith, le, c.well_formed.1.1.1.1.1.0)

pub overflow_add-n : goal.overflow_add-n
overflow_add-n c =
    let l = c.loop-run in
    omega (arith, l.invariant.0, l.invariant.2, c.well_formed.1.1.1.1.1.0)

pub loop-run-smaller : goal.loop-run-smaller
loop-run-smaller c =
    let l = c.loop-run in
    let a = c.args in
    let t = c.one_turn-turn.result in
    let here : inside_of l.at a.script.now ≡ l.at = omega (arith, l.invariant.0) in
    let eq = rw here at c.one_turn-turn.ensures in
    let le = taken-left l.run l.n l.at a.script.now t eq in
    omega (arith, le, c.if-k-eq0.false)

pub loop-run-preserved : goal.loop-run-preserved
loop-run-preserved c =
    let l = c.loop-run in
    let a = c.args in
    let t = c.one_turn-turn.result in
    let here : inside_of l.at a.script.now ≡ l.at = omega (arith, l.invariant.0) in
    let eq = rw here at c.one_turn-turn.ensures in
    let le = taken-left l.run l.n l.at a.script.now t eq in
    let go = c.if-k-eq0.false in
    let told = rw (rest l.at a.script.now) at c.answer-answer.ensures in
    let put = whole (row c.put_field-w.ensures) in (
      omega (arith, le),
      omega arith,
      omega (arith, go),
      put.same ∙ l.invariant.3,
      go_on a.start a.script.now a.out.now a.w _ l.out l.run l.n l.at l.w t
          l.invariant.1 l.invariant.2 l.invariant.0 l.invariant.4 eq go c.after-run.ensures told put,
    )
