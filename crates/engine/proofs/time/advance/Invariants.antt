-- What the loop of `advance` keeps, and the measure by which it ends.
use Prim.Native.Nat.{◌≤◌, ◌-◌}
use mathlib.Core.Path.{◌≡◌}
use Rattle.sequences.specs.Times.{iterate}
use Rattle.engine_samples.specs.Sample.{stepped_of}
use Rattle.engine.proofs.time.advance.Given as goal

abbrev pub invariant-loop-i : goal.invariant-loop-i
invariant-loop-i l = (l.i ≤ l.samples) × (l.engine ≡ iterate stepped_of l.i l.initial.engine)

abbrev pub decreases-loop-i : goal.decreases-loop-i
decreases-loop-i l = l.samples - l.i
