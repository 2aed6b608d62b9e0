-- `rk_exp` meets its contract: it is its callee's.
use Rattle.host.proofs.rk_exp.Goals as goal

pub returns : goal.returns
returns c = c.exp.ensures
