-- `freed` meets its contract: one test.
use Rattle.frame.specs.Freed.{due_of}
use Rattle.frame.proofs.places.freed.Goals as goal

pub returns-then-p : goal.returns-then-p
unfolding due_of
returns-then-p c = rw c.if-p.true c.due.ensures
