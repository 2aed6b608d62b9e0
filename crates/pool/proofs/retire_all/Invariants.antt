-- What the loop of `retire_all` keeps, and the measure by which it ends.
use Prim.Native.Nat.{◌-◌}
use Rattle.sequences.specs.Upto.{Mapped}
use Rattle.pool.specs.Pool.{retire_one}
use Rattle.pool.proofs.retire_all.Given as goal

abbrev pub invariant-loop-i : goal.invariant-loop-i
invariant-loop-i l = Mapped (retire_one l.sample) 64 l.initial.out l.i l.out

abbrev pub decreases-loop-i : goal.decreases-loop-i
decreases-loop-i l = 64 - l.i
