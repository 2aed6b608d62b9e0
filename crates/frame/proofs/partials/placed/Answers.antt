-- `placed` meets its contract: one test.
use Rattle.sequences.specs.Pick.{took, skipped}
use Rattle.frame.specs.Windows.{window_by}
use Rattle.frame.proofs.partials.placed.Goals as goal

pub returns-then-hz-max_hz : goal.returns-then-hz-max_hz
unfolding window_by
returns-then-hz-max_hz c = took _ _ _ _ (rw (← c.exp2-hz.ensures) c.if-hz-max_hz.true) c.default.ensures

pub returns : goal.returns
unfolding window_by
returns c = skipped _ _ _ _ (rw (← c.exp2-hz.ensures) c.if-hz-max_hz.false) (rw (c.radius-radius.ensures, c.exp2-hz.ensures))
