-- `rk_write_seek` meets its contract: its event.
use Rattle.script.specs.declared.fields.Field.TheVariants as F
use Rattle.host.proofs.Telling.{told-by}
use Rattle.host.proofs.write.rk_write_seek.Goals as goal

pub returns : goal.returns
returns c = let a = c.args in told-by a.out.now a.at.now (F.Seek a.cycles) c.write_seek-written.ensures c.told.ensures
