-- `rk_write_frame` meets its contract: its event.
use Rattle.script.specs.declared.fields.Field.TheVariants as F
use Rattle.host.proofs.Telling.{told-by}
use Rattle.host.proofs.write.rk_write_frame.Goals as goal

pub returns : goal.returns
returns c = let a = c.args in told-by a.out.now a.at.now (F.Frame a.bin_hz a.elapsed) c.write_frame-written.ensures c.told.ensures
