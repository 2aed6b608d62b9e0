-- `put_listing` meets its contract: one test.
use borrow.Author.Tests.{le-leb, lt-leb}
use Prim.Native.Nat.{◌+◌, ◌-◌}
use mathlib.Core.Path.{◌≡◌}
use native.Mathlib.Omega.{arith}
use lib.ListN.{length}
use Rattle.refusals.specs.declared.Refusal.TheVariants.{Script}
use Rattle.listing.specs.declared.lines.Line.TheVariants as L
use Rattle.listing.proofs.Written.{written}
use Rattle.oracle_late.specs.Late.{printed_late}
use Rattle.oracle_late.proofs.put_listing.Goals as goal

pub returns-then-script-le-MAX_SCRIPT_BYTES : goal.returns-then-script-le-MAX_SCRIPT_BYTES
unfolding printed_late
returns-then-script-le-MAX_SCRIPT_BYTES c =
    let s = c.args.script.now in
    let e : length s + 2 - 1 ≡ length s + 1 = omega arith in
    rw (le-leb _ _ c.if-script-le-MAX_SCRIPT_BYTES.true) (rw (c.fresh.ensures, e) at c.list_fields.ensures)

pub returns-else-script-le-MAX_SCRIPT_BYTES : goal.returns-else-script-le-MAX_SCRIPT_BYTES
unfolding printed_late
returns-else-script-le-MAX_SCRIPT_BYTES c = rw (lt-leb _ _ c.if-script-le-MAX_SCRIPT_BYTES.false) (written (L.Bad 0 Script 0) c.put_line.ensures)
