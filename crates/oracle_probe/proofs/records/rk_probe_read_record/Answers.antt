-- `rk_probe_read_record` meets its contract: the callee's answer, as its number.
use Rattle.oracle_probe.proofs.Told.{read_told}
use Rattle.oracle_probe.proofs.records.rk_probe_read_record.Goals as goal

pub returns : goal.returns
returns c =
    let a = c.args in
    read_told a.sample.now a.count.now a.taken.now c.read_record-read.ensures c.told_found.ensures
