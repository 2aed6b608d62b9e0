-- What the loop of `raise` keeps, and the measure by which it ends.
use Prim.Native.Nat.{◌-◌, ◌≤◌}
use Rattle.mask_gains.specs.Walk.{Part}
use Rattle.mask_gains.proofs.touch.raise.Given as goal

abbrev pub invariant-loop-i : goal.invariant-loop-i
invariant-loop-i l = Part l.w l.logs l.initial.scratch l.start l.i l.scratch × (l.i ≤ l.end)

abbrev pub decreases-loop-i : goal.decreases-loop-i
decreases-loop-i l = l.end - l.i
