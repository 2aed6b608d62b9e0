-- `rk_probe_write_record` meets its contract: the callee's answer, as its number.
use Rattle.oracle_probe.proofs.Told.{written_told}
use Rattle.oracle_probe.proofs.records.rk_probe_write_record.Goals as goal

pub returns : goal.returns
returns c = rw (← c.frame_of-frame.ensures) (written_told c.args.at.now c.write_record-written.ensures c.told.ensures)
