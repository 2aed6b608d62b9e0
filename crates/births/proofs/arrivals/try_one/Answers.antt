-- `try_one` meets its contract: one counter grows.
use mathlib.Core.Path.{refl}
use Rattle.births.proofs.arrivals.try_one.Goals as goal

pub returns : goal.returns
returns c = refl
