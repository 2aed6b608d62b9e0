-- What the loop of `finish` keeps.
use Prim.Native.Nat.{ℕ}
use lib.ListN.{length, get_or}
use lib.Ieee.{nan}
use Rattle.sequences.specs.Table.{Filled}
use Rattle.mask_gains.specs.Gains.{gain_of}
use Rattle.mask_gains.proofs.gain.finish.Given as goal

abbrev pub invariant-loop-i : goal.invariant-loop-i
invariant-loop-i l = Filled (λ (j : ℕ). gain_of l.level (get_or l.scratch j nan)) (length l.scratch) l.i l.output
