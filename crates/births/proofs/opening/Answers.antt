-- `opening` meets its contract: a case for each shape.
use Rattle.births.specs.Births.{opening_of}
use Rattle.births.proofs.opening.Goals as goal

pub returns-in-Sprinkle : goal.returns-in-Sprinkle
unfolding opening_of
returns-in-Sprinkle c = rw (c.random.ensures, c.in-Sprinkle.is)

pub returns-in-Cloud : goal.returns-in-Cloud
unfolding opening_of
returns-in-Cloud c = rw c.in-Cloud.is
