-- `retire_one` meets its contract: one test.
use mathlib.Core.Path.{refl}
use Rattle.sequences.specs.Pick.{took, skipped}
use Rattle.pool.specs.Pool.{retire_one}
use Rattle.pool.proofs.retire_one.Goals as goal

pub returns-then-p : goal.returns-then-p
unfolding retire_one
returns-then-p c = took _ _ _ _ c.if-p.true c.marked.ensures

pub returns : goal.returns
unfolding retire_one
returns c = skipped _ _ _ _ c.if-p.false refl
