-- `replay` is safe and ends: it counts no more than a million cases, and no more wrong ones than cases.
use Rattle.std.proofs.Common.{◌≡◌, ◌-◌, ◌≤◌, length}
use Rattle.script_vectors.proofs.replay.Given as goal

abbrev pub invariant-loop-cases : goal.invariant-loop-cases
invariant-loop-cases l = (l.cases ≤ 1000000) × (l.wrong ≤ l.cases) × (length l.script ≡ length l.initial.script) × (length l.want ≡ length l.initial.want) × (length l.out ≡ length l.initial.out)

abbrev pub decreases-loop-cases : goal.decreases-loop-cases
decreases-loop-cases l = 1000000 - l.cases
