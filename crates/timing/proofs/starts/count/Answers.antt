-- `count` meets its contract: the tests in order.
use Rattle.sequences.specs.Pick.{picked, passed, skipped}
use Rattle.timing.specs.Starts.{starts_drawn}
use Rattle.timing.proofs.starts.count.Goals as goal

pub returns-then-draw : goal.returns-then-draw
unfolding starts_drawn
returns-then-draw c = picked _ _ _ c.if-draw.true

pub returns-then-draw-2 : goal.returns-then-draw-2
unfolding starts_drawn
returns-then-draw-2 c = skipped _ _ _ _ c.if-draw.false (picked _ _ _ c.if-draw-2.true)

pub returns-else-draw-2 : goal.returns-else-draw-2
unfolding starts_drawn
returns-else-draw-2 c = skipped _ _ _ _ c.if-draw.false (passed _ _ _ c.if-draw-2.false)
