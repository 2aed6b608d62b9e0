-- `bad_of` meets its contract: a case for each line.
use Rattle.listing.proofs.ending.bad_of.Goals as goal

pub returns-in-Bad : goal.returns-in-Bad
returns-in-Bad c = rw c.in-Bad.is
