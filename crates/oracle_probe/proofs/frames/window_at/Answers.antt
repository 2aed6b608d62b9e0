-- `window_at` meets its contract: three floats.
use Rattle.oracle_probe.specs.Frames.{flat_window}
use Rattle.oracle_probe.proofs.frames.window_at.Goals as goal

pub returns : goal.returns
unfolding flat_window
returns c = rw (c.float_at-3.ensures, c.float_at-2.ensures, c.float_at.ensures)
