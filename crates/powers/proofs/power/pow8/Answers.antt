-- `pow8` meets its contract: `power` at its base's logarithm, which is finite.
use lib.Ieee.{of_bits}
use Rattle.powers.specs.Power.{pow8}
use Rattle.powers.proofs.power.pow8.Goals as goal

pub power-requires : goal.power-requires
unfolding of_bits
power-requires c = tt

pub returns : goal.returns
unfolding pow8
returns c = c.power.ensures
