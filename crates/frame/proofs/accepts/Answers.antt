-- `accepts` meets its contract: two tests.
use Rattle.frame.specs.Frame.{accepted}
use Rattle.frame.proofs.accepts.Goals as goal

pub returns-then-is_finite : goal.returns-then-is_finite
unfolding accepted
returns-then-is_finite c = rw (← c.is_finite.ensures, c.if-is_finite.true)

pub returns-else-is_finite : goal.returns-else-is_finite
unfolding accepted
returns-else-is_finite c = rw (← c.is_finite.ensures, c.if-is_finite.false)
