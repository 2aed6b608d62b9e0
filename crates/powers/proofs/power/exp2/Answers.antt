-- `exp2` meets its contract: `power` at its base's logarithm, which is finite.
use lib.Ieee.{of_bits}
use Rattle.powers.specs.Power.{exp2}
use Rattle.powers.proofs.power.exp2.Goals as goal

pub power-requires : goal.power-requires
unfolding of_bits
power-requires c = tt

pub returns : goal.returns
unfolding exp2
returns c = c.power.ensures
