-- `partials` meets its contract: a case for each shape.
use Rattle.births.specs.Births.{partials_by}
use Rattle.births.proofs.partials.Goals as goal

pub returns-in-Sprinkle : goal.returns-in-Sprinkle
unfolding partials_by
returns-in-Sprinkle c = rw (c.select_partials.ensures, c.ratio.ensures, c.in-Sprinkle.is)

pub returns-in-Cloud : goal.returns-in-Cloud
unfolding partials_by
returns-in-Cloud c = rw c.in-Cloud.is
