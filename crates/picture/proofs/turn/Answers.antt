-- `turn` meets its contract: a record that was found has its entries at the start of those lent.
use mathlib.Core.Path.{sym}
use native.Mathlib.Omega.{arith}
use lib.ListN.{length-take}
use lib.Seq.{length-take-le}
use Rattle.picture.proofs.turn.Goals as goal

pub slice_bounds-read_record-end-2 : goal.slice_bounds-read_record-end-2
slice_bounds-read_record-end-2 c = sym (length-take-le _ _ (omega arith))

pub slice_bounds-write_record-end-then-count-entries : goal.slice_bounds-write_record-end-then-count-entries
slice_bounds-write_record-end-then-count-entries c = sym (length-take-le _ _ (omega arith))

pub write_record-requires : goal.write_record-requires
write_record-requires c = simp length-take (omega arith)
