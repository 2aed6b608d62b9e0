-- `replied` meets its contract: a case for each reply.
use Rattle.std.proofs.Common.{rules, eq-eqb, ne_eqb}
use Rattle.listing.specs.Saying.{said_of}
use Rattle.listing.proofs.turns.replied.Goals as goal

pub returns-in-Ok-None : goal.returns-in-Ok-None
unfolding said_of
returns-in-Ok-None c = search rules

pub returns-then-n-eq1 : goal.returns-then-n-eq1
unfolding said_of
returns-then-n-eq1 c = rw (c.in-Err.is, eq-eqb _ _ c.if-n-eq1.true, c.says-then-n-eq1.ensures)

pub returns-else-n-eq1 : goal.returns-else-n-eq1
unfolding said_of
returns-else-n-eq1 c = rw (c.in-Err.is, ne_eqb _ _ c.if-n-eq1.false, c.says-else-n-eq1.ensures)

pub returns-in-Ok-Some : goal.returns-in-Ok-Some
unfolding said_of
returns-in-Ok-Some c = search rules
