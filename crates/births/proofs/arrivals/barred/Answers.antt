-- `barred` meets its contract: one test, then the other.
use Rattle.births.specs.Birth.{is_barred}
use Rattle.births.proofs.arrivals.barred.Goals as goal

pub returns-then-is_none : goal.returns-then-is_none
unfolding is_barred
returns-then-is_none c = rw (c.is_none.ensures, c.if-is_none.true)

pub returns-else-is_none : goal.returns-else-is_none
unfolding is_barred
returns-else-is_none c = rw (c.is_none.ensures, c.if-is_none.false)
