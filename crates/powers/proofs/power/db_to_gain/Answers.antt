-- `db_to_gain` meets its contract: it is its callee's.
use Rattle.powers.specs.Power.{db_to_gain}
use Rattle.powers.proofs.power.db_to_gain.Goals as goal

pub returns : goal.returns
unfolding db_to_gain
returns c = c.pow10.ensures
