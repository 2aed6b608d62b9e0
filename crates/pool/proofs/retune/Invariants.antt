-- What the loop of `retune` keeps.
use Rattle.sequences.specs.Upto.{Mapped}
use Rattle.pool.specs.Pool.{retune_one}
use Rattle.pool.proofs.retune.Given as goal

abbrev pub invariant-loop-p : goal.invariant-loop-p
invariant-loop-p l = Mapped (retune_one l.slot l.hz) 64 l.initial.p-items l.p-index l.p-items
