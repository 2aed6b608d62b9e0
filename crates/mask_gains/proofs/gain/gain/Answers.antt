-- `gain` meets its contract: a shut bin has the gain of 0.
use mathlib.Core.Path.{ap, ◌∙◌}
use denote.Floats.{passes}
use lib.Ieee.{Float}
use Rattle.floats.specs.Names.{mul32}
use Rattle.powers.specs.Power.{db_to_gain}
use Rattle.mask_gains.specs.Gains.{gain_of}
use Rattle.mask_gains.proofs.Closed.{closed_bin}
use Rattle.mask_gains.proofs.gain.gain.Goals as goal

pub returns-then-openness : goal.returns-then-openness
unfolding gain_of
returns-then-openness c = c.requires ∙ ap (λ (x : Float). db_to_gain (mul32 c.args.level x)) (closed_bin c.args.openness (passes _ c.well_formed.1.1.0.1) c.if-openness.true)
