-- `scaled` meets its contract: one test; the digits are below 2^24, so the products fit.
use Prim.Native.Nat.{◌<◌}
use native.Mathlib.Omega.{arith}
use borrow.Author.Tests.{eq-eqb, ne_eqb}
use Rattle.elementary.specs.Sqrt.{scaled_of}
use Rattle.elementary.proofs.Rungs.{parts}
use Rattle.elementary.proofs.root.scaled.Goals as goal
use Rattle.elementary.proofs.root.scaled.Goals.{After-rung}

few : (c : After-rung) → c.digits-m.result < 16777216
few c = rw c.digits-m.ensures (parts _ c.requires.0 c.requires.1).to

pub overflow_mul-result : goal.overflow_mul-result
overflow_mul-result c = omega (arith, few (goal.at.overflow_mul-result c).After-rung)

pub overflow_mul-result-else-rung-eq1 : goal.overflow_mul-result-else-rung-eq1
overflow_mul-result-else-rung-eq1 c = omega (arith, few (goal.at.overflow_mul-result-else-rung-eq1 c).After-rung)

pub returns-then-rung-eq1 : goal.returns-then-rung-eq1
unfolding scaled_of
returns-then-rung-eq1 c = rw (c.digits-m.ensures, ← c.rung.ensures, eq-eqb _ _ c.if-rung-eq1.true)

pub returns-else-rung-eq1 : goal.returns-else-rung-eq1
unfolding scaled_of
returns-else-rung-eq1 c = rw (c.digits-m.ensures, ← c.rung.ensures, ne_eqb _ _ c.if-rung-eq1.false)
