-- `rk_probe_aligned_first` meets its contract: the element of what `align_streams` gives.
use Rattle.timing.specs.Streams.{aligned_all}
use Rattle.oracle_probe.proofs.rk_probe_aligned_first.Goals as goal

pub returns : goal.returns
unfolding aligned_all
returns c = rw c.align_streams-all.ensures
