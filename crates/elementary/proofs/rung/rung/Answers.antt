-- `rung` meets its contract: `Rungs.rung-normal` or `Rungs.rung-low`.
use mathlib.Core.Path.{sym}
use native.Mathlib.Omega.{arith}
use Rattle.elementary.proofs.Rungs.{low_facts, rung-normal, rung-low}
use Rattle.elementary.proofs.rung.rung.Goals as goal

pub overflow_sub-result : goal.overflow_sub-result
overflow_sub-result c = omega (arith, (low_facts c.args.b c.requires c.if-b-ge8388608.false).zeros)

pub returns-then-b-ge8388608 : goal.returns-then-b-ge8388608
returns-then-b-ge8388608 c = sym (rung-normal c.args.b c.if-b-ge8388608.true)

pub returns-else-b-ge8388608 : goal.returns-else-b-ge8388608
returns-else-b-ge8388608 c = sym (rung-low c.args.b c.if-b-ge8388608.false)
