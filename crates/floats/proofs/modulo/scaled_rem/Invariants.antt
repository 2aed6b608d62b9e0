-- What the loop of `scaled_rem` keeps, and the measure by which it ends.
use Rattle.std.proofs.Common.{◌≡◌, ◌*◌, ◌%◌, ◌^◌, ◌<◌}
use Rattle.floats.proofs.modulo.scaled_rem.Given as goal

abbrev pub invariant-loop-left : goal.invariant-loop-left
invariant-loop-left l = (l.r < l.n) × (l.r * 2 ^ l.left % l.n ≡ l.a * 2 ^ l.d % l.n)

abbrev pub decreases-loop-left : goal.decreases-loop-left
decreases-loop-left l = l.left
