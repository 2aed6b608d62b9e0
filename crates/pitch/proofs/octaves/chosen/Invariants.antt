-- What the loop of `chosen` keeps.
use Rattle.pitch.proofs.Walks.{Chosen}
use Rattle.pitch.specs.Octave.{weight_of, last_octave}
use Rattle.pitch.proofs.octaves.chosen.Given as goal

abbrev pub invariant-loop-i : goal.invariant-loop-i
invariant-loop-i l = Chosen (weight_of l.low l.span l.upward) (last_octave l.count) l.count l.target l.i l.left
