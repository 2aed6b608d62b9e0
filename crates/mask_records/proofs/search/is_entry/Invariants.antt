-- What the loop of `is_entry` keeps, and the measure by which it ends.
use Rattle.mask_records.proofs.Sought.{Sought}
use Rattle.mask_records.proofs.search.is_entry.Given as goal

abbrev pub invariant-loop-size : goal.invariant-loop-size
invariant-loop-size l = Sought l.e l.base l.size

abbrev pub decreases-loop-size : goal.decreases-loop-size
decreases-loop-size l = l.size
