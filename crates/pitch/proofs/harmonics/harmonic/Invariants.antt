-- What the loop of `harmonic` keeps, and the measure by which it ends.
use Rattle.std.proofs.Common.{◌-◌}
use Rattle.sequences.specs.Rest.{Rest}
use Rattle.pitch.specs.Partials.{harmonic_from}
use Rattle.pitch.proofs.harmonics.harmonic.Given as goal

abbrev pub invariant-loop-i : goal.invariant-loop-i
invariant-loop-i l = Rest harmonic_from 24 l.weights (l.target, 0) l.i (l.left, l.chosen)

abbrev pub decreases-loop-i : goal.decreases-loop-i
decreases-loop-i l = 24 - l.i
