-- What the loop of `hand_out` keeps.
use lib.ListN.{length}
use Rattle.sequences.specs.Table.{Filled}
use Rattle.mask_records.specs.Found.{entry_in}
use Rattle.mask_records.proofs.reading.hand_out.Given as goal

abbrev pub invariant-loop-i : goal.invariant-loop-i
invariant-loop-i l = Filled (entry_in l.s) (length l.initial.lent) l.i l.lent
