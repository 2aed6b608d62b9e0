-- `sprinkle_key` meets its contract: the code is the definition.
use mathlib.Core.Path.{refl}
use Rattle.draws.specs.Draws.{key_of}
use Rattle.draws.proofs.sprinkle_key.Goals as goal

pub returns : goal.returns
unfolding key_of
returns c = refl
