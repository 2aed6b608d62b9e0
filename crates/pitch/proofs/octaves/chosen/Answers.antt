-- `chosen` meets its contract: the walk, turn by turn.
use lib.Ieee.{Float}
use Rattle.floats.specs.Names.{sub32}
use Rattle.std.proofs.Common.{ap, ◌∙◌, rules}
use Rattle.pitch.proofs.Walks.{chosen_none, chosen_here, chosen_more, chosen_end}
use Rattle.pitch.specs.Octave.{octave_chosen}
use Rattle.pitch.proofs.octaves.chosen.Goals as goal

pub loop-i-init : goal.loop-i-init
loop-i-init c = chosen_none _ _ _ _

pub loop-i-preserved : goal.loop-i-preserved
loop-i-preserved c = chosen_more c.loop-i.invariant _ (search rules) (ap (λ (w : Float). sub32 c.loop-i.left w) c.weight-left.ensures) c.if-left.false

pub returns : goal.returns
unfolding octave_chosen
returns c = c.last.ensures ∙ chosen_end c.loop-i.invariant (search rules)

pub returns-then-left : goal.returns-then-left
unfolding octave_chosen
returns-then-left c = chosen_here c.loop-i.invariant _ (search rules) (ap (λ (w : Float). sub32 c.loop-i.left w) c.weight-left.ensures) c.if-left.true
