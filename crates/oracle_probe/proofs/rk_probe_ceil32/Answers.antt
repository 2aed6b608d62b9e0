-- `rk_probe_ceil32` meets its contract: it is its callee's.
use Rattle.oracle_probe.proofs.rk_probe_ceil32.Goals as goal

pub returns : goal.returns
returns c = c.ceil.ensures
