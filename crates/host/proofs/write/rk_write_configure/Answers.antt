-- `rk_write_configure` meets its contract: the settings of these numbers.
use Rattle.script.specs.declared.fields.Field.TheVariants as F
use Rattle.host.specs.Write.{config_from}
use Rattle.host.proofs.Telling.{told-by}
use Rattle.host.proofs.write.rk_write_configure.Goals as goal

pub returns : goal.returns
returns c =
    let a = c.args in
    let config = config_from a.enabled a.shape a.direction a.rate_hz a.size_octaves a.phase a.scheduled a.sync a.hop_samples a.partials a.partial_rolloff_db a.attack_ms a.release_ms in
    told-by a.out.now a.at.now (F.Configure config) (rw (c.from-2.ensures, c.from.ensures) at c.write_configure-written.ensures) c.told.ensures
