-- `listing` meets its contract: one test.
use Rattle.std.proofs.Common.{◌≡◌, ◌+◌, ◌-◌, length, append-nil, arith, le-leb}
use borrow.Author.Tests.{lt-leb}
use Rattle.refusals.specs.declared.Refusal.TheVariants.{Script}
use Rattle.listing.specs.declared.lines.Line.TheVariants as L
use Rattle.listing.proofs.Written.{written}
use Rattle.listing.specs.Printed.{printed}
use Rattle.listing.proofs.listing.Goals as goal

pub returns-then-script-le-MAX_SCRIPT_BYTES : goal.returns-then-script-le-MAX_SCRIPT_BYTES
unfolding printed
returns-then-script-le-MAX_SCRIPT_BYTES c =
    let s = c.args.script.now in
    let e : length s + 2 - 1 ≡ length s + 1 = omega arith in
    rw (le-leb _ _ c.if-script-le-MAX_SCRIPT_BYTES.true) (rw (c.fresh.ensures, e) at c.list_fields.ensures)

pub returns-else-script-le-MAX_SCRIPT_BYTES : goal.returns-else-script-le-MAX_SCRIPT_BYTES
unfolding printed
returns-else-script-le-MAX_SCRIPT_BYTES c = rw (lt-leb _ _ c.if-script-le-MAX_SCRIPT_BYTES.false, append-nil) (written (L.Bad 0 Script 0) c.put_line.ensures)
