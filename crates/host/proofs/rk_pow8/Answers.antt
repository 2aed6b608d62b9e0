-- `rk_pow8` meets its contract: it is its callee's.
use Rattle.host.proofs.rk_pow8.Goals as goal

pub returns : goal.returns
returns c = c.pow8.ensures
