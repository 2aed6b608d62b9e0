-- `rk_pow10` meets its contract: it is its callee's.
use Rattle.host.proofs.rk_pow10.Goals as goal

pub returns : goal.returns
returns c = c.pow10.ensures
