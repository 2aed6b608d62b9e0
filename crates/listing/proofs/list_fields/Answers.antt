-- `list_fields` meets its contract: whatever writes the text that is left completes the listing.
use Rattle.std.proofs.Common.{◌+◌, ◌-◌, ◌^◌, ◌<◌, ◌≤◌, length, refl, ◌∙◌, arith}
use Rattle.listing.proofs.TurnLaws.{taken-left}
use Rattle.listing.proofs.Laws.{stop, go_on}
use Rattle.listing.proofs.Silence.{before_line, line_turn, line_low, line_few, line_after, line_within, line_goes}
use Rattle.listing.proofs.Written.{written}
use Rattle.listing.proofs.list_fields.Goals as goal

pub loop-reached-init : goal.loop-reached-init
loop-reached-init c =
    let pre = c.requires in
    (pre.0, pre.1, pre.2, refl, λ p r h. h)

pub shape_of-out-then-k-eq0 : goal.shape_of-out-then-k-eq0
shape_of-out-then-k-eq0 c = (written c.next_line-reached.result.turn.line c.put_line-w.ensures).same ∙ c.loop-reached.invariant.3

pub returns-then-k-eq0 : goal.returns-then-k-eq0
returns-then-k-eq0 c =
    let a = c.args in
    let l = c.loop-reached in
    let s = a.script.now in
    let r = c.next_line-reached.result in
    let eq = c.next_line-reached.ensures in
    let top : length s + 1 < 2 ^ 64 = omega (arith, c.well_formed.1.1.1.1.0) in
    let low = line_low s l.run l.n l.at r eq l.invariant.2 l.invariant.0 top in
    let few = line_few s l.run l.n l.at r eq l.invariant.2 l.invariant.0 top in
    let fits = line_within s l.run l.n l.at r eq l.invariant.2 l.invariant.0 top in
    let turn = line_turn s l.run l.n l.at r eq l.invariant.2 l.invariant.0 top in
    let le : r.turn.taken ≤ length s - r.at = taken-left (before_line s l.run l.n l.at r eq l.invariant.2 l.invariant.0 top) r.n r.at s r.turn turn in
    let put = written c.next_line-reached.result.turn.line c.put_line-w.ensures in
    stop s a.out.now a.w _ l.out c.put_line-w.new.out (before_line s l.run l.n l.at r eq l.invariant.2 l.invariant.0 top) r.n r.at l.w c.put_line-w.result r.turn
    (omega arith) few fits (line_goes s l.run l.n l.at r eq l.invariant.2 l.invariant.0 top a.out.now a.w _ l.out l.w l.invariant.4) turn put c.if-k-eq0.true

pub overflow_add-at : goal.overflow_add-at
overflow_add-at c =
    let a = c.args in
    let l = c.loop-reached in
    let s = a.script.now in
    let r = c.next_line-reached.result in
    let eq = c.next_line-reached.ensures in
    let top : length s + 1 < 2 ^ 64 = omega (arith, c.well_formed.1.1.1.1.0) in
    let low = line_low s l.run l.n l.at r eq l.invariant.2 l.invariant.0 top in
    let few = line_few s l.run l.n l.at r eq l.invariant.2 l.invariant.0 top in
    let fits = line_within s l.run l.n l.at r eq l.invariant.2 l.invariant.0 top in
    let turn = line_turn s l.run l.n l.at r eq l.invariant.2 l.invariant.0 top in
    let le : r.turn.taken ≤ length s - r.at = taken-left (before_line s l.run l.n l.at r eq l.invariant.2 l.invariant.0 top) r.n r.at s r.turn turn in
    omega arith

pub overflow_add-n : goal.overflow_add-n
overflow_add-n c =
    let a = c.args in
    let l = c.loop-reached in
    let s = a.script.now in
    let r = c.next_line-reached.result in
    let eq = c.next_line-reached.ensures in
    let top : length s + 1 < 2 ^ 64 = omega (arith, c.well_formed.1.1.1.1.0) in
    let low = line_low s l.run l.n l.at r eq l.invariant.2 l.invariant.0 top in
    let few = line_few s l.run l.n l.at r eq l.invariant.2 l.invariant.0 top in
    let fits = line_within s l.run l.n l.at r eq l.invariant.2 l.invariant.0 top in
    let turn = line_turn s l.run l.n l.at r eq l.invariant.2 l.invariant.0 top in
    let le : r.turn.taken ≤ length s - r.at = taken-left (before_line s l.run l.n l.at r eq l.invariant.2 l.invariant.0 top) r.n r.at s r.turn turn in
    omega arith

pub loop-reached-smaller : goal.loop-reached-smaller
loop-reached-smaller c =
    let a = c.args in
    let l = c.loop-reached in
    let s = a.script.now in
    let r = c.next_line-reached.result in
    let eq = c.next_line-reached.ensures in
    let top : length s + 1 < 2 ^ 64 = omega (arith, c.well_formed.1.1.1.1.0) in
    let low = line_low s l.run l.n l.at r eq l.invariant.2 l.invariant.0 top in
    let few = line_few s l.run l.n l.at r eq l.invariant.2 l.invariant.0 top in
    let fits = line_within s l.run l.n l.at r eq l.invariant.2 l.invariant.0 top in
    let turn = line_turn s l.run l.n l.at r eq l.invariant.2 l.invariant.0 top in
    let le : r.turn.taken ≤ length s - r.at = taken-left (before_line s l.run l.n l.at r eq l.invariant.2 l.invariant.0 top) r.n r.at s r.turn turn in
    let after = line_after s l.run l.n l.at r eq l.invariant.2 l.invariant.0 top in
    let some = c.if-k-eq0.false in
    omega arith

pub loop-reached-preserved : goal.loop-reached-preserved
loop-reached-preserved c =
    let a = c.args in
    let l = c.loop-reached in
    let s = a.script.now in
    let r = c.next_line-reached.result in
    let eq = c.next_line-reached.ensures in
    let top : length s + 1 < 2 ^ 64 = omega (arith, c.well_formed.1.1.1.1.0) in
    let low = line_low s l.run l.n l.at r eq l.invariant.2 l.invariant.0 top in
    let few = line_few s l.run l.n l.at r eq l.invariant.2 l.invariant.0 top in
    let fits = line_within s l.run l.n l.at r eq l.invariant.2 l.invariant.0 top in
    let turn = line_turn s l.run l.n l.at r eq l.invariant.2 l.invariant.0 top in
    let le : r.turn.taken ≤ length s - r.at = taken-left (before_line s l.run l.n l.at r eq l.invariant.2 l.invariant.0 top) r.n r.at s r.turn turn in
    let put = written c.next_line-reached.result.turn.line c.put_line-w.ensures in (
      omega arith,
      omega arith,
      omega arith,
      put.same ∙ l.invariant.3,
      go_on s a.out.now a.w _ l.out c.put_line-w.new.out (before_line s l.run l.n l.at r eq l.invariant.2 l.invariant.0 top) r.n r.at l.w c.put_line-w.result r.turn
          (omega arith) few fits (line_goes s l.run l.n l.at r eq l.invariant.2 l.invariant.0 top a.out.now a.w _ l.out l.w l.invariant.4) turn put c.if-k-eq0.false,
    )
