-- `strength` meets its contract: the opening comes last.
use Rattle.births.specs.Births.{strength_of}
use Rattle.births.proofs.strength.Goals as goal

pub returns : goal.returns
unfolding strength_of
returns c = rw c.opening.ensures
