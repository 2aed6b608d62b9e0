-- `room` meets its contract: one test.
use Rattle.std.proofs.Common.{le-leb}
use borrow.Author.Tests.{lt-leb}
use Rattle.listing.proofs.room.Goals as goal

pub returns-then-n-le-MAX_SCRIPT_BYTES : goal.returns-then-n-le-MAX_SCRIPT_BYTES
returns-then-n-le-MAX_SCRIPT_BYTES c = rw (le-leb _ _ c.if-n-le-MAX_SCRIPT_BYTES.true)

pub returns-else-n-le-MAX_SCRIPT_BYTES : goal.returns-else-n-le-MAX_SCRIPT_BYTES
returns-else-n-le-MAX_SCRIPT_BYTES c = rw (lt-leb _ _ c.if-n-le-MAX_SCRIPT_BYTES.false)
