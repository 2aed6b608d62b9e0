-- `sized` is safe: the parts that are lent fit.
use Rattle.std.proofs.Common.{sym, arith, length-take-le}
use Rattle.masks.proofs.sized.Goals as goal

pub slice_bounds-file-end-4 : goal.slice_bounds-file-end-4
slice_bounds-file-end-4 c = sym (length-take-le _ _ (omega arith))

pub slice_bounds-file-end-6 : goal.slice_bounds-file-end-6
slice_bounds-file-end-6 c = sym (length-take-le _ _ (omega arith))
