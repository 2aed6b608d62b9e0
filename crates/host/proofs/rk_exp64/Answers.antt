-- `rk_exp64` meets its contract: it is its callee's.
use Rattle.host.proofs.rk_exp64.Goals as goal

pub returns : goal.returns
returns c = c.exp64.ensures
