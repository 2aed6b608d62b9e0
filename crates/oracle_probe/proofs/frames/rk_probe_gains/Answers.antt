-- `rk_probe_gains` meets its contract: the callee's answer, as its number.
use Rattle.std.proofs.Common.{ap}
use Rattle.oracle_probe.specs.Frames.{numbered_both}
use Rattle.oracle_probe.proofs.frames.rk_probe_gains.Goals as goal

pub returns : goal.returns
returns c = rw (c.answer_number.ensures, ← c.frame_of-frame.ensures) (ap numbered_both c.gains.ensures)
