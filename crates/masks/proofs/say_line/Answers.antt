-- `say_line` is safe: what fits is written.
use Rattle.std.proofs.Common.{sym, arith, length-take-le}
use Rattle.masks.proofs.say_line.Goals as goal

pub slice_bounds-write_all-end-then-n-text : goal.slice_bounds-write_all-end-then-n-text
slice_bounds-write_all-end-then-n-text c = sym (length-take-le _ _ (omega (arith, c.if-n-text.true)))
