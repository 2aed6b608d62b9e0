-- `rk_probe_lifetime` meets its contract: the callees' answers, put together.
use Rattle.std.proofs.Common.{ap, ◌∙◌}
use Rattle.settings.specs.declared.Config.{Config}
use Rattle.settings.specs.declared.envelopes.Contour.{Contour}
use Rattle.settings.specs.Mending.{mended_of}
use Rattle.settings.specs.Envelope.{contour_of}
use Rattle.oracle_probe.proofs.rk_probe_lifetime.Goals as goal

pub returns : goal.returns
returns c = ap (λ (e : Contour). e.lifetime) (c.envelope-contour.ensures ∙ ap (λ (m : Config). contour_of m c.args.index c.args.sample_rate) (c.mended.ensures ∙ ap mended_of c.config_of-config.ensures))
