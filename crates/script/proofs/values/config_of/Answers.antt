-- `config_of` meets its contract: the callees' answers, put together.
use mathlib.Core.Path.{ap, ◌∙◌}
use Rattle.settings.specs.ByNumber.{shape_from, direction_from}
use Rattle.script.proofs.values.config_of.Goals as goal

pub returns : goal.returns
returns c =
    λ i. record {
      enabled = c.flag_at.ensures i;
      shape = (c.from.ensures ∙ ap shape_from c.byte.ensures) i;
      direction = (c.from-2.ensures ∙ ap direction_from c.byte-2.ensures) i;
      rate_hz = c.f32_at.ensures i;
      size_octaves = c.f32_at-2.ensures i;
      phase = c.f32_at-3.ensures i;
      scheduled = c.flag_at-2.ensures i;
      sync = c.flag_at-3.ensures i;
      hop_samples = c.be32_at.ensures i;
      partials = c.be32_at-2.ensures i;
      partial_rolloff_db = c.f32_at-4.ensures i;
      attack_ms = c.f32_at-5.ensures i;
      release_ms = c.f32_at-6.ensures i;
    }
