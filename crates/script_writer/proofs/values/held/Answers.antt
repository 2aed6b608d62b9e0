-- `held` meets its contract: one test.
use native.Mathlib.Omega.{arith}
use borrow.Author.Tests.{le-leb, lt-leb}
use Rattle.script_writer.specs.Encoded.{held32}
use Rattle.script_writer.proofs.values.held.Goals as goal

pub returns-then-n-lt4294967296 : goal.returns-then-n-lt4294967296
unfolding held32
returns-then-n-lt4294967296 c = let h = c.if-n-lt4294967296.true in rw (le-leb c.args.n 4294967295 (omega arith))

pub returns-else-n-lt4294967296 : goal.returns-else-n-lt4294967296
unfolding held32
returns-else-n-lt4294967296 c = let h = c.if-n-lt4294967296.false in rw (lt-leb c.args.n 4294967295 (omega arith))
