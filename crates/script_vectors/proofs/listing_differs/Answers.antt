-- `listing_differs` is safe.
use Rattle.std.proofs.Common.{sym, arith, length-take-le}
use Rattle.script_vectors.proofs.listing_differs.Goals as goal

pub slice_bounds-read_full-end-2 : goal.slice_bounds-read_full-end-2
slice_bounds-read_full-end-2 c = sym (length-take-le _ _ (omega arith))

pub slice_bounds-list_script_from-end-2 : goal.slice_bounds-list_script_from-end-2
slice_bounds-list_script_from-end-2 c = sym (length-take-le _ _ (omega arith))

pub slice_bounds-same-end-then-k-out : goal.slice_bounds-same-end-then-k-out
slice_bounds-same-end-then-k-out c = sym (length-take-le _ _ (omega arith))

pub slice_bounds-same-end-then-k-out-3 : goal.slice_bounds-same-end-then-k-out-3
slice_bounds-same-end-then-k-out-3 c = sym (length-take-le _ _ (omega arith))
