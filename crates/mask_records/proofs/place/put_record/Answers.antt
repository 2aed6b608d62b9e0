-- `put_record` meets its contract: two tests for room, then the head and the entries.
use Rattle.mask_records.proofs.Places.{no_room, after-head, head-same, placed}
use native.Mathlib.Omega.{arith}
use Prim.Native.Nat.{◌≤◌, ◌+◌, ◌*◌}
use lib.ListN.{length}
use Rattle.mask_records.proofs.place.put_record.Goals as goal

pub returns-then-out-at : goal.returns-then-out-at
returns-then-out-at c = let a = c.args in no_room a.sample a.entries.now a.out.now a.at (omega (arith, c.if-out-at.true))

pub returns-then-out-at-2 : goal.returns-then-out-at-2
returns-then-out-at-2 c = let a = c.args in no_room a.sample a.entries.now a.out.now a.at (omega (arith, c.if-out-at-2.true, c.if-out-at.false))

pub put_pairs-requires : goal.put_pairs-requires
put_pairs-requires c = let a = c.args in
    let p = c.put-after in
    let f : a.at + (16 + 2 * length a.entries.now) ≤ length a.out.now = omega (arith, c.if-out-at-2.false, c.if-out-at.false) in
    let r = after-head a.sample a.entries.now a.out.now a.at _ _ _ f c.head-first.ensures p.ensures in
    let l = head-same a.sample a.entries.now a.out.now a.at _ _ _ f c.head-first.ensures p.ensures in
    (c.requires, omega arith)

pub returns : goal.returns
returns c = let a = c.args in
    let f : a.at + (16 + 2 * length a.entries.now) ≤ length a.out.now = omega (arith, c.if-out-at-2.false, c.if-out-at.false) in
    placed a.sample a.entries.now a.out.now a.at _ _ _ f c.head-first.ensures c.put-after.ensures _ c.put_pairs.ensures
