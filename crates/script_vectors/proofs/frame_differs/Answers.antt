-- `frame_differs` is safe.
use Rattle.std.proofs.Common.{sym, arith, length-take-le}
use Rattle.script_vectors.proofs.frame_differs.Goals as goal

pub slice_bounds-last_frame-end-2 : goal.slice_bounds-last_frame-end-2
slice_bounds-last_frame-end-2 c = sym (length-take-le _ _ (omega arith))
