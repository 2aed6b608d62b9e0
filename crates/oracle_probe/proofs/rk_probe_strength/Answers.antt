-- `rk_probe_strength` meets its contract: the field of what `sprinkle_register` gives.
use Rattle.std.proofs.Common.{ap, ◌∙◌}
use Rattle.settings.specs.declared.Direction.{Direction}
use Rattle.pitch.specs.declared.octaves.Register.{Register}
use Rattle.pitch.specs.Octave.{register_of}
use Rattle.oracle_probe.proofs.rk_probe_strength.Goals as goal

pub returns : goal.returns
returns c = ap (λ (g : Register). g.strength) (c.sprinkle_register-register.ensures ∙ ap (λ (w : Direction). register_of c.args.index c.args.root_hz c.args.max_hz w) c.from.ensures)
