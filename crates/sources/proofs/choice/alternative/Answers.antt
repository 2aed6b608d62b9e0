-- `alternative` meets its contract: one test, then the other.
use Rattle.sources.specs.Choosing.{is_alternative}
use Rattle.sources.proofs.choice.alternative.Goals as goal

pub returns-then-eligible : goal.returns-then-eligible
unfolding is_alternative
returns-then-eligible c = rw (← c.eligible.ensures, c.if-eligible.true, c.ne.ensures)

pub returns-else-eligible : goal.returns-else-eligible
unfolding is_alternative
returns-else-eligible c = rw (← c.eligible.ensures, c.if-eligible.false)
