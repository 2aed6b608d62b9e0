-- `loud` meets its contract: in the first places of two arrays.
use lib.Seq.{length-take-le}
use native.Mathlib.Omega.{arith}
use mathlib.Core.Path.{sym}
use Rattle.mask_records.proofs.write.loud.Goals as goal

pub slice_bounds-shape-end : goal.slice_bounds-shape-end
slice_bounds-shape-end c = sym (length-take-le _ _ (omega (arith, c.places-opened.ensures, c.requires.0)))

pub slice_bounds-shape-end-2 : goal.slice_bounds-shape-end-2
slice_bounds-shape-end-2 c = sym (length-take-le _ _ (omega (arith, c.entry_places-entries.ensures, c.requires.0)))

pub shape-requires : goal.shape-requires
shape-requires c = (c.requires.0, length-take-le _ _ (omega (arith, c.places-opened.ensures, c.requires.0)), length-take-le _ _ (omega (arith, c.entry_places-entries.ensures, c.requires.0)), c.requires.1, c.requires.2)
