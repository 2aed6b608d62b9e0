-- `rk_probe_bin_table` meets its contract: the callee's answer, as its number.
use Rattle.std.proofs.Common.{ap}
use Rattle.oracle_probe.specs.Frames.{numbered}
use Rattle.oracle_probe.proofs.frames.rk_probe_bin_table.Goals as goal

pub returns : goal.returns
returns c = rw c.answer_number.ensures (ap numbered c.bin_table.ensures)
