-- What the loop of `fill` keeps.
use lib.ListN.{length}
use Rattle.sequences.specs.Table.{Filled}
use Rattle.mask_gains.specs.Bins.{log_at}
use Rattle.mask_gains.proofs.bins.fill.Given as goal

abbrev pub invariant-loop-bin : goal.invariant-loop-bin
invariant-loop-bin l = Filled (log_at l.bin_hz) (length l.initial.table) l.bin l.table
