-- What the loops of `windows` keep.
use Rattle.std.proofs.Common.{◌+◌, ◌*◌, ◌≤◌}
use Rattle.windows.specs.Opening.{empty_window}
use Rattle.frame.specs.Windows.{window_at}
use Rattle.frame.proofs.Blank.{Blank}
use Rattle.frame.proofs.partials.windows.Given as goal

abbrev pub invariant-loop-w : goal.invariant-loop-w
invariant-loop-w l = (l.w ≤ 3) × Blank (window_at l.logs l.bin_hz l.max_hz l.s-items) empty_window (3 * l.p + l.w) l.out

abbrev pub invariant-loop-p : goal.invariant-loop-p
invariant-loop-p l = Blank (window_at l.logs l.bin_hz l.max_hz l.s-items) empty_window (3 * l.p) l.out
