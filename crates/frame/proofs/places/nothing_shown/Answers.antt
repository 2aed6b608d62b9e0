-- `nothing_shown` meets its contract by computation.
use Rattle.std.proofs.Common.{refl}
use Rattle.frame.specs.Shown.{nothing}
use Rattle.frame.proofs.places.nothing_shown.Goals as goal

pub returns : goal.returns
unfolding nothing
returns c = refl
