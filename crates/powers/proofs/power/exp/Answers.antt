-- `exp` meets its contract: `power` at its base's logarithm, which is finite.
use lib.Ieee.{of_bits}
use Rattle.powers.specs.Power.{exp}
use Rattle.powers.proofs.power.exp.Goals as goal

pub power-requires : goal.power-requires
unfolding of_bits
power-requires c = tt

pub returns : goal.returns
unfolding exp
returns c = c.power.ensures
