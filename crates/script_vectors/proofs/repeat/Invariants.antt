-- `repeat` is safe and ends: the loop reads n places back, which are there.
use Rattle.std.proofs.Common.{◌≡◌, ◌-◌, ◌≤◌, length}
use Rattle.script_vectors.proofs.repeat.Given as goal

abbrev pub invariant-loop-i : goal.invariant-loop-i
invariant-loop-i l = (l.end ≤ length l.initial.script) × (length l.script ≡ length l.initial.script) × (l.n ≤ l.i)
