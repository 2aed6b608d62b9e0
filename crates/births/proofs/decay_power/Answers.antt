-- `decay_power` meets its contract: a case for each shape.
use Rattle.births.specs.Births.{power_by}
use Rattle.births.proofs.decay_power.Goals as goal

pub returns-in-Sprinkle : goal.returns-in-Sprinkle
unfolding power_by
returns-in-Sprinkle c = rw c.in-Sprinkle.is

pub returns-in-Cloud : goal.returns-in-Cloud
unfolding power_by
returns-in-Cloud c = rw c.in-Cloud.is
