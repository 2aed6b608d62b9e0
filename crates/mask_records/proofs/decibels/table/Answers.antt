-- `table` meets its contract: the two lists are one.
use mathlib.Core.Path.{refl}
use Rattle.mask_records.specs.Decibels.{entries}
use Rattle.mask_records.proofs.decibels.table.Goals as goal

pub returns : goal.returns
unfolding entries
returns c = refl
