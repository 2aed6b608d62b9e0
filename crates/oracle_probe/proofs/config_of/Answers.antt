-- `config_of` meets its contract: field by field.
use Rattle.oracle_probe.specs.Numbers.{probed_config}
use Rattle.oracle_probe.proofs.config_of.Goals as goal

pub returns : goal.returns
unfolding probed_config
returns c = rw (c.from-direction.ensures, c.from-shape.ensures)
