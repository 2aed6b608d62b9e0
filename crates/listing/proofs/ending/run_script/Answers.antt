-- `run_script` meets its contract: one test.
use Rattle.std.proofs.Common.{le-leb}
use borrow.Author.Tests.{lt-leb}
use Rattle.listing.specs.Ended.{ran_of}
use Rattle.listing.proofs.ending.run_script.Goals as goal

pub returns-then-script-le-MAX_SCRIPT_BYTES : goal.returns-then-script-le-MAX_SCRIPT_BYTES
unfolding ran_of
returns-then-script-le-MAX_SCRIPT_BYTES c = rw (le-leb _ _ c.if-script-le-MAX_SCRIPT_BYTES.true, c.end_of.ensures, c.last_turn.ensures)

pub returns-else-script-le-MAX_SCRIPT_BYTES : goal.returns-else-script-le-MAX_SCRIPT_BYTES
unfolding ran_of
returns-else-script-le-MAX_SCRIPT_BYTES c = rw (lt-leb _ _ c.if-script-le-MAX_SCRIPT_BYTES.false, c.ran.ensures, c.fresh.ensures)
