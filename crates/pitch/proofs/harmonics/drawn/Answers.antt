-- `drawn` meets its contract: slot by slot.
use Rattle.std.proofs.Common.{rules}
use Rattle.pitch.proofs.Turns.{drawn-none, drawn-more, drawn_here, drawn-all}
use Rattle.pitch.specs.Partials.{partials_drawn}
use Rattle.pitch.proofs.harmonics.drawn.Goals as goal

pub loop-slot-init : goal.loop-slot-init
loop-slot-init c = drawn-none _ _ _ (search rules) (search rules)

pub loop-slot-preserved : goal.loop-slot-preserved
loop-slot-preserved c = drawn-more c.loop-slot.invariant _ _ _ _ (search rules) c.sum-total.ensures c.if-total.false c.random.ensures c.harmonic-partial.ensures c.without-rest.ensures

pub returns-after-loop-slot : goal.returns-after-loop-slot
unfolding partials_drawn
returns-after-loop-slot c = drawn-all c.loop-slot.invariant (search rules)

pub returns-then-total : goal.returns-then-total
unfolding partials_drawn
returns-then-total c = drawn_here c.loop-slot.invariant _ (search rules) c.sum-total.ensures c.if-total.true
