-- `write_line` meets its contract: no more is written than the bytes lent.
use mathlib.Core.Path.{sym}
use native.Mathlib.Omega.{arith}
use lib.Seq.{length-take-le}
use Rattle.picture.proofs.lines.write_line.Goals as goal

pub slice_bounds-write_all-end-then-end-out : goal.slice_bounds-write_all-end-then-end-out
slice_bounds-write_all-end-then-end-out c = sym (length-take-le _ _ (omega arith))
