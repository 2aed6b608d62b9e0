-- `released` meets its contract by computation.
use mathlib.Core.Path.{refl}
use Rattle.sources.proofs.released.Goals as goal

pub returns : goal.returns
returns c = refl
