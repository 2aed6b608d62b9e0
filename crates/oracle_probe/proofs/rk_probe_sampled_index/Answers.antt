-- `rk_probe_sampled_index` meets its contract: the field of what `sampled` gives.
use Rattle.std.proofs.Common.{ap}
use Rattle.timing.specs.declared.SprinkleStream.{SprinkleStream}
use Rattle.oracle_probe.proofs.rk_probe_sampled_index.Goals as goal

pub returns : goal.returns
returns c = ap (λ (s : SprinkleStream). s.index) c.sampled-stream.ensures
