-- `rk_probe_mended_rate` meets its contract: the field of what `mended` gives.
use Rattle.std.proofs.Common.{ap, ◌∙◌}
use Rattle.settings.specs.declared.Config.{Config}
use Rattle.settings.specs.Mending.{mended_of}
use Rattle.oracle_probe.specs.Numbers.{probed_config}
use Rattle.oracle_probe.proofs.rk_probe_mended_rate.Goals as goal

pub returns : goal.returns
unfolding mended_of probed_config
returns c = ap (λ (m : Config). m.rate_hz) (c.mended-mended.ensures ∙ ap mended_of c.config_of.ensures)
