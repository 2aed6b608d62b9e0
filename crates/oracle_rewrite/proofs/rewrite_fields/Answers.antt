-- `rewrite_fields` meets its contract: what is written of the whole script is what is written of the fields that are left.
use mathlib.Core.Path.{refl, ap, ◌∙◌}
use native.Mathlib.Omega.{arith}
use lib.ListN.{length}
use Rattle.script.proofs.Part.{rest}
use Rattle.oracle_rewrite.proofs.Onward.{from_first, stop, go_on, taken-left, bytes_length}
use Rattle.oracle_rewrite.proofs.rewrite_fields.Goals as goal

pub loop-n-init : goal.loop-n-init
loop-n-init c =
    let a = c.args in
    (omega arith, omega arith, omega arith, refl, from_first a.script.now a.out.now)

pub slice_bounds-rewrite_field-count : goal.slice_bounds-rewrite_field-count
slice_bounds-rewrite_field-count c = omega arith

pub slice_bounds-rewrite_field-start : goal.slice_bounds-rewrite_field-start
slice_bounds-rewrite_field-start c = omega arith

pub slice_bounds-rewrite_field-end : goal.slice_bounds-rewrite_field-end
slice_bounds-rewrite_field-end c = omega arith

pub shape_of-out-then-k-eq0 : goal.shape_of-out-then-k-eq0
shape_of-out-then-k-eq0 c =
    let l = c.loop-n in
    let a = c.args in
    let e = rw (rest l.at a.script.now) at c.rewrite_field-one.ensures in
    ap length e.2 ∙ bytes_length _ l.out l.w ∙ l.invariant.3

pub returns-then-k-eq0 : goal.returns-then-k-eq0
returns-then-k-eq0 c =
    let l = c.loop-n in
    let a = c.args in
    let e = rw (rest l.at a.script.now) at c.rewrite_field-one.ensures in
    stop a.script.now a.out.now l.out l.n l.at l.w l.invariant.4 e.0 c.if-k-eq0.true e.1 e.2

pub overflow_add-at : goal.overflow_add-at
overflow_add-at c =
    let l = c.loop-n in
    let a = c.args in
    let e = rw (rest l.at a.script.now) at c.rewrite_field-one.ensures in
    let k = taken-left a.script.now a.out.now l.out l.n l.at l.w l.invariant.4 e.0 in
    omega (arith, k, c.well_formed.0)

pub overflow_add-n : goal.overflow_add-n
overflow_add-n c =
    let l = c.loop-n in
    omega (arith, l.invariant.0, l.invariant.2, c.well_formed.0)

pub loop-n-smaller : goal.loop-n-smaller
loop-n-smaller c =
    let l = c.loop-n in
    let a = c.args in
    let e = rw (rest l.at a.script.now) at c.rewrite_field-one.ensures in
    let k = taken-left a.script.now a.out.now l.out l.n l.at l.w l.invariant.4 e.0 in
    omega (arith, k, c.if-k-eq0.false)

pub loop-n-preserved : goal.loop-n-preserved
loop-n-preserved c =
    let l = c.loop-n in
    let a = c.args in
    let e = rw (rest l.at a.script.now) at c.rewrite_field-one.ensures in
    let k = taken-left a.script.now a.out.now l.out l.n l.at l.w l.invariant.4 e.0 in
    let go = c.if-k-eq0.false in (
      omega (arith, k),
      omega arith,
      omega (arith, go),
      ap length e.2 ∙ bytes_length _ l.out l.w ∙ l.invariant.3,
      go_on a.script.now a.out.now l.out l.n l.at l.w l.invariant.4 e.0 go e.1 e.2,
    )
