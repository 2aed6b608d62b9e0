-- `due` meets its contract: two tests.
use Rattle.frame.specs.Freed.{due_of}
use Rattle.frame.proofs.places.due.Goals as goal

pub returns-then-seconds-p : goal.returns-then-seconds-p
unfolding due_of
returns-then-seconds-p c = rw (← c.seconds.ensures, c.if-seconds-p.true)

pub returns : goal.returns
unfolding due_of
returns c = rw (← c.seconds.ensures, c.if-seconds-p.false, c.retirement.ensures)
