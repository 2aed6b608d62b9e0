-- `rk_sqrt` meets its contract: it is its callee's.
use Rattle.host.proofs.rk_sqrt.Goals as goal

pub returns : goal.returns
returns c = c.sqrt.ensures
