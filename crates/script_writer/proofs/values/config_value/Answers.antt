-- `config_value` meets its contract: number by number, in the order of the form.
use mathlib.Core.Path.{ap, ◌∙◌}
use Rattle.big_endian.specs.Bytes.{bytes32}
use Rattle.script_writer.proofs.Config.{config-spelled}
use Rattle.script_writer.proofs.values.config_value.Goals as goal

pub returns : goal.returns
returns c =
    config-spelled
    c.args.c
    c.flag.ensures
    c.from.ensures
    c.from-2.ensures
    c.single-rate.ensures
    c.single-size.ensures
    c.single-phase.ensures
    c.flag-2.ensures
    c.flag-3.ensures
    (c.bytes32-hop.ensures ∙ ap bytes32 c.held.ensures)
    (c.bytes32-partials.ensures ∙ ap bytes32 c.held-2.ensures)
    c.single-rolloff.ensures
    c.single-attack.ensures
    c.single-release.ensures
