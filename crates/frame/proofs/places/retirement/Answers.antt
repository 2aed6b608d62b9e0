-- `retirement` meets its contract: a case for each variant.
use Rattle.frame.specs.Freed.{retirement_of}
use Rattle.frame.proofs.places.retirement.Goals as goal

pub returns-in-None : goal.returns-in-None
unfolding retirement_of
returns-in-None c = rw c.in-None.is

pub returns-in-Some : goal.returns-in-Some
unfolding retirement_of
returns-in-Some c = rw (c.seconds.ensures, c.in-Some.is)
