-- `rk_exp2` meets its contract: it is its callee's.
use Rattle.host.proofs.rk_exp2.Goals as goal

pub returns : goal.returns
returns c = c.exp2.ensures
