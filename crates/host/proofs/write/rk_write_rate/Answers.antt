-- `rk_write_rate` meets its contract: its event.
use Rattle.script.specs.declared.fields.Field.TheVariants as F
use Rattle.host.proofs.Telling.{told-by}
use Rattle.host.proofs.write.rk_write_rate.Goals as goal

pub returns : goal.returns
returns c = let a = c.args in told-by a.out.now a.at.now (F.Rate a.rate) c.write_rate-written.ensures c.told.ensures
