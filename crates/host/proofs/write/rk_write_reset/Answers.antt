-- `rk_write_reset` meets its contract: its event.
use Rattle.script.specs.declared.fields.Field.TheVariants as F
use Rattle.host.proofs.Telling.{told-by}
use Rattle.host.proofs.write.rk_write_reset.Goals as goal

pub returns : goal.returns
returns c = let a = c.args in told-by a.out.now a.at.now F.Reset c.write_reset-written.ensures c.told.ensures
