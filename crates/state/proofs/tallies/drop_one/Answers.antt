-- `drop_one` meets its contract: one counter grows.
use mathlib.Core.Path.{refl}
use Rattle.state.proofs.tallies.drop_one.Goals as goal

pub returns : goal.returns
returns c = refl
