-- `inside` meets its contract: one test.
use Rattle.std.proofs.Common.{arith}
use Rattle.listing.proofs.turns.inside.Goals as goal

pub returns-then-at-script : goal.returns-then-at-script
returns-then-at-script c = omega arith

pub returns-else-at-script : goal.returns-else-at-script
returns-else-at-script c = omega arith
