-- `held` meets its contract: one test.
use Rattle.std.proofs.Common.{refl, arith, le-ltb, lt-ltb}
use Rattle.sequences.specs.Pick.{took, skipped}
use Rattle.masks.proofs.held.Goals as goal

pub returns-then-n-lt1000000 : goal.returns-then-n-lt1000000
returns-then-n-lt1000000 c = (took _ _ _ _ (lt-ltb _ _ c.if-n-lt1000000.true) refl, omega arith)

pub returns-else-n-lt1000000 : goal.returns-else-n-lt1000000
returns-else-n-lt1000000 c = (skipped _ _ _ _ (le-ltb _ _ c.if-n-lt1000000.false) refl, omega arith)
