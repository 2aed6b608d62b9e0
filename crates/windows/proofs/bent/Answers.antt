-- `bent` meets its contract: the same operations.
use mathlib.Core.Path.{refl}
use Rattle.windows.specs.Opening.{cubic}
use Rattle.windows.proofs.bent.Goals as goal

pub returns : goal.returns
unfolding cubic
returns c = refl
