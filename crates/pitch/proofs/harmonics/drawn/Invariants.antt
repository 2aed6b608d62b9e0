-- What the loop of `drawn` keeps, and the measure by which it ends.
use Rattle.std.proofs.Common.{◌-◌}
use Rattle.pitch.proofs.Turns.{Drawn}
use Rattle.pitch.proofs.harmonics.drawn.Given as goal

abbrev pub invariant-loop-slot : goal.invariant-loop-slot
invariant-loop-slot l = Drawn l.index l.count l.initial.left l.slot l.left l.selected

abbrev pub decreases-loop-slot : goal.decreases-loop-slot
decreases-loop-slot l = l.count - l.slot
