-- `width` meets its contract: an entry of the table of widths.
use Prim.Native.Nat.{◌/◌, ◌<◌}
use native.Mathlib.Omega.{arith}
use Rattle.picture.specs.Rows.{row_width}
use Rattle.picture.proofs.Bins.{width_is, width_most}
use Rattle.picture.proofs.rows.width.Goals as goal

pub returns : goal.returns
unfolding row_width
returns c =
    let row = c.args.row in
    let h : row / 8 < 12 = omega arith in
    (width_is (row / 8) h, width_most (row / 8) h)
