-- `pow10` meets its contract: `power` at its base's logarithm, which is finite.
use lib.Ieee.{of_bits}
use Rattle.powers.specs.Power.{pow10}
use Rattle.powers.proofs.power.pow10.Goals as goal

pub power-requires : goal.power-requires
unfolding of_bits
power-requires c = tt

pub returns : goal.returns
unfolding pow10
returns c = c.power.ensures
