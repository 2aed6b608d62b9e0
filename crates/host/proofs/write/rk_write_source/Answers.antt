-- `rk_write_source` meets its contract: its event.
use Rattle.script.specs.declared.fields.Field.TheVariants as F
use Rattle.host.proofs.Telling.{told-by}
use Rattle.host.proofs.write.rk_write_source.Goals as goal

pub returns : goal.returns
returns c = let a = c.args in told-by a.out.now a.at.now (F.Source a.slot a.frequency_hz a.strength a.eligible) c.write_source-written.ensures c.told.ensures
