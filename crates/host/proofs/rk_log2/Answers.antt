-- `rk_log2` meets its contract: it is its callee's.
use Rattle.host.proofs.rk_log2.Goals as goal

pub returns : goal.returns
returns c = c.log2.ensures
