-- What the loops of `nearest_root` keep, and the measures by which they end.
use Prim.Native.Nat.{◌-◌, ◌*◌, ◌≤◌, ◌<◌}
use Rattle.elementary.proofs.root.nearest_root.Given as goal

abbrev pub invariant-loop-q : goal.invariant-loop-q
invariant-loop-q l = (1 ≤ l.q) × (l.q < 1073741824)

abbrev pub decreases-loop-q : goal.decreases-loop-q
decreases-loop-q l = l.q

abbrev pub invariant-loop-r : goal.invariant-loop-r
invariant-loop-r l = (1 ≤ l.r) × (l.r * (l.r - 1) < l.n)

abbrev pub decreases-loop-r : goal.decreases-loop-r
decreases-loop-r l = 16777217 - l.r
