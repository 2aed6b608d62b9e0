-- `take` meets its contract by computation.
use Rattle.std.proofs.Common.{refl}
use Rattle.state.proofs.take.Goals as goal

pub returns : goal.returns
returns c = refl
