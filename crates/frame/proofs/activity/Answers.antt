-- `activity` meets its contract: the same operations, then the floor.
use Rattle.sequences.specs.Pick.{took, skipped}
use Rattle.frame.specs.Frame.{activity_of, activity_moved, activity_step}
use Rattle.frame.proofs.activity.Goals as goal

pub returns-then-enabled : goal.returns-then-enabled
unfolding activity_of activity_moved activity_step
returns-then-enabled c = took _ _ _ _ c.if-enabled.true (rw (c.exp-step.ensures, c.pick-target.ensures))

pub returns : goal.returns
unfolding activity_of activity_moved activity_step
returns c = skipped _ _ _ _ c.if-enabled.false (rw (c.pick.ensures, c.exp-step.ensures, c.pick-target.ensures))
