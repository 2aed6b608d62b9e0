-- `register` meets its contract: a case for each shape.
use Rattle.births.specs.Births.{register_by}
use Rattle.births.proofs.register.Goals as goal

pub returns-in-Sprinkle : goal.returns-in-Sprinkle
unfolding register_by
returns-in-Sprinkle c = rw (c.sprinkle_register.ensures, c.in-Sprinkle.is)

pub returns-in-Cloud : goal.returns-in-Cloud
unfolding register_by
returns-in-Cloud c = rw (c.register_strength-strength.ensures, c.log2.ensures, c.in-Cloud.is)
