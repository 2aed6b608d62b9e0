-- `behind` meets its contract: two sums.
use mathlib.Core.Path.{refl}
use Rattle.mask_files.proofs.frames.behind.Goals as goal

pub returns : goal.returns
returns c = refl
