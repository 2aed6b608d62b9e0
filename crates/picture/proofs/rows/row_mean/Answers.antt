-- `row_mean` meets its contract: what is cut is the row, and it has a bin.
use native.Mathlib.Omega.{arith}
use lib.ListN.{length-take, length-drop}
use Rattle.picture.specs.Rows.{row_entries}
use Rattle.picture.proofs.Bins.{row_has_a_bin}
use Rattle.picture.proofs.rows.row_mean.Goals as goal

pub slice_bounds-mean-count : goal.slice_bounds-mean-count
slice_bounds-mean-count c = omega (arith, row_has_a_bin c.args.row c.requires.0)

pub slice_bounds-mean-start : goal.slice_bounds-mean-start
slice_bounds-mean-start c = omega (arith, row_has_a_bin c.args.row c.requires.0)

pub mean-requires : goal.mean-requires
mean-requires c =
    let has = row_has_a_bin c.args.row c.requires.0 in
    simp (length-take, length-drop) (omega arith)

pub returns : goal.returns
unfolding row_entries
returns c =
    rw (← c.first_bin-first.ensures, ← c.first_bin.ensures, ← c.least-upto.ensures)
    c.mean.ensures
