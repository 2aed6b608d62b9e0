-- `run` ends: it counts no more than a million cases, and no more wrong ones than cases.
use Prim.Native.Nat.{◌-◌, ◌≤◌}
use Rattle.vectors.proofs.run.Given as goal

abbrev pub invariant-loop-cases : goal.invariant-loop-cases
invariant-loop-cases g l = (l.cases ≤ 1000000) × (l.wrong ≤ l.cases)

abbrev pub decreases-loop-cases : goal.decreases-loop-cases
decreases-loop-cases g l = 1000000 - l.cases
