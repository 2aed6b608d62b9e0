-- `turned_away` meets its contract: a free particle, and what it was handed.
use Rattle.births.proofs.arrivals.turned_away.Goals as goal

pub returns : goal.returns
returns c = rw c.default-particle.ensures
