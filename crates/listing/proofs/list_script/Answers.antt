-- `list_script` meets its contract: a listing is never longer than the room.
use Rattle.std.proofs.Common.{◌≡◌, ◌≤◌, length, le_trans, arith, le-ltb, lt-ltb}
use Rattle.listing.specs.Printed.{printed}
use Rattle.listing.proofs.Sizes.{size}
use Rattle.listing.proofs.list_script.Goals as goal

pub returns-then-out-needed : goal.returns-then-out-needed
returns-then-out-needed c =
    let short = rw c.room-needed.ensures at c.if-out-needed.true in
    (rw (lt-ltb _ _ short), rw (lt-ltb _ _ short))

pub returns : goal.returns
returns c =
    let a = c.args in
    let long = rw c.room-needed.ensures at c.if-out-needed.false in
    let fit : length (printed a.script.now) ≤ length a.out.now = le_trans (size a.script.now) long in
    let f = c.listing-n.ensures.fits (omega (arith, fit)) in
    let e : c.listing-n.result ≡ length (printed a.script.now) = omega (arith, f.0) in
    (rw (le-ltb _ _ long, e), rw (le-ltb _ _ long) f.1)
