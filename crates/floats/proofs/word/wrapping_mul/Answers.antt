-- `wrapping_mul` meets its contract: by its definition.
use Rattle.std.proofs.Common.{refl}
use Rattle.floats.specs.Word.{product}
use Rattle.floats.proofs.word.wrapping_mul.Goals as goal

pub returns : goal.returns
unfolding product
returns c = refl
