-- What the loop of `retire_bound` keeps, and the measure by which it ends.
use Prim.Native.Nat.{◌-◌}
use Rattle.sequences.specs.Upto.{Mapped}
use Rattle.pool.specs.Pool.{retire_bound_one}
use Rattle.pool.proofs.retire_bound.Given as goal

abbrev pub invariant-loop-i : goal.invariant-loop-i
invariant-loop-i l = Mapped (retire_bound_one l.slot l.sample) 64 l.initial.out l.i l.out

abbrev pub decreases-loop-i : goal.decreases-loop-i
decreases-loop-i l = 64 - l.i
