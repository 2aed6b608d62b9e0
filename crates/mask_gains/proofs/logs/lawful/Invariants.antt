-- What the loop of `lawful` keeps, and the measure by which it ends.
use Prim.Native.Nat.{◌-◌, ◌≤◌}
use mathlib.Core.Path.{◌≡◌}
use lib.ListN.{length}
use Rattle.sequences.specs.All.{all}
use Rattle.mask_gains.specs.Logs.{lawful_at}
use Rattle.mask_gains.proofs.logs.lawful.Given as goal

abbrev pub invariant-loop-i : goal.invariant-loop-i
invariant-loop-i l = (l.ok ≡ all (lawful_at l.logs) l.i) × (2 ≤ l.i) × (l.i ≤ length l.logs)

abbrev pub decreases-loop-i : goal.decreases-loop-i
decreases-loop-i l = length l.logs - l.i
