-- `refuse` meets its contract by computation.
use Rattle.std.proofs.Common.{refl}
use Rattle.state.proofs.refuse.Goals as goal

pub returns : goal.returns
returns c = refl
