-- `end_of` meets its contract: the answer of the turn's line.
use Rattle.listing.proofs.ending.end_of.Goals as goal

pub returns : goal.returns
returns c = rw c.bad_of.ensures at c.ran.ensures
