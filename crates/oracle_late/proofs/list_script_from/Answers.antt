-- `list_script_from` meets its contract: a listing is never longer than the room.
use borrow.Author.Tests.{lt-ltb, le-ltb}
use Prim.Native.Nat.{◌≤◌}
use mathlib.Core.Path.{◌≡◌}
use native.Mathlib.Omega.{arith}
use native.Mathlib.Nat.{le_trans}
use lib.ListN.{length}
use Rattle.oracle_late.specs.Late.{printed_late}
use Rattle.oracle_late.proofs.LateText.{size_late}
use Rattle.oracle_late.proofs.list_script_from.Goals as goal

pub returns-then-out-needed : goal.returns-then-out-needed
returns-then-out-needed c =
    let short = rw c.room-needed.ensures at c.if-out-needed.true in
    (rw (lt-ltb _ _ short), rw (lt-ltb _ _ short))

pub returns : goal.returns
returns c =
    let a = c.args in
    let long = rw c.room-needed.ensures at c.if-out-needed.false in
    let fit : length (printed_late a.start a.script.now) ≤ length a.out.now = le_trans (size_late a.start a.script.now) long in
    let f = c.put_listing-n.ensures.fits (omega (arith, fit)) in
    let e : c.put_listing-n.result ≡ length (printed_late a.start a.script.now) = omega (arith, f.0) in
    (rw (le-ltb _ _ long, e), rw (le-ltb _ _ long) f.1)
