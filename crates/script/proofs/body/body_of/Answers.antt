-- `body_of` meets its contract: the tests in order.
use Prim.Native.Nat.{◌-◌}
use native.Mathlib.Omega.{arith}
use lib.ListN.{length}
use borrow.Author.Tests.{le-leb, lt-leb, eq-eqb, ne_eqb}
use Rattle.script.specs.Field.{body_of}
use Rattle.script.proofs.Part.{rest}
use Rattle.script.proofs.body.body_of.Goals as goal

pub returns-then-wrong : goal.returns-then-wrong
unfolding body_of
returns-then-wrong c =
    let said = c.be16_at-said.result in
    let n = c.row_of-row.result.length in
    rw (← c.be16_at-said.ensures, ← c.row_of-row.ensures.0, ne_eqb said n c.if-wrong.true)

pub returns-then-cut : goal.returns-then-cut
unfolding body_of
returns-then-cut c =
    let s = c.args.s.now in
    let said = c.be16_at-said.result in
    let n = c.row_of-row.result.length in
    rw (← c.be16_at-said.ensures, ← c.row_of-row.ensures.0, eq-eqb said n c.if-wrong.false, lt-leb n (length s - 3) c.if-cut.true)

pub overflow_add-result : goal.overflow_add-result
overflow_add-result c =
    let s = c.args.s.now in
    let n = c.row_of-row.result.length in
    omega (arith, c.if-cut.false, c.well_formed.1.0)

pub returns-then-row : goal.returns-then-row
unfolding body_of
returns-then-row c =
    let s = c.args.s.now in
    let said = c.be16_at-said.result in
    let n = c.row_of-row.result.length in
    let row = rw (rest 3 s) at c.row_of-row.ensures in
    rw (← c.be16_at-said.ensures, ← row.0, eq-eqb said n c.if-wrong.false, le-leb n (length s - 3) c.if-cut.false, ← row.1, c.if-row.true, ← row.2)

pub returns-else-row : goal.returns-else-row
unfolding body_of
returns-else-row c =
    let s = c.args.s.now in
    let said = c.be16_at-said.result in
    let n = c.row_of-row.result.length in
    let row = rw (rest 3 s) at c.row_of-row.ensures in
    rw (← c.be16_at-said.ensures, ← row.0, eq-eqb said n c.if-wrong.false, le-leb n (length s - 3) c.if-cut.false, ← row.1, c.if-row.false)
