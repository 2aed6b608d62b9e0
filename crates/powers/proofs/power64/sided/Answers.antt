-- `sided` meets its contract: one test.
use Rattle.std.proofs.Common.{le-ltb, lt-ltb}
use Rattle.powers.specs.Exp64.{sided}
use Rattle.powers.proofs.power64.sided.Goals as goal

pub returns-then-b-lt9223372036854775808 : goal.returns-then-b-lt9223372036854775808
unfolding sided
returns-then-b-lt9223372036854775808 c = rw (lt-ltb _ _ c.if-b-lt9223372036854775808.true, c.scaled-t.ensures.0)

pub returns-else-b-lt9223372036854775808 : goal.returns-else-b-lt9223372036854775808
unfolding sided
returns-else-b-lt9223372036854775808 c = rw (le-ltb _ _ c.if-b-lt9223372036854775808.false, c.scaled-t.ensures.0)
