-- `rk_probe_prepared_next` meets its contract: the field of what `prepared` gives.
use Rattle.std.proofs.Common.{ap}
use Rattle.timing.specs.declared.SprinkleStream.{SprinkleStream}
use Rattle.oracle_probe.proofs.rk_probe_prepared_next.Goals as goal

pub returns : goal.returns
returns c = ap (λ (s : SprinkleStream). s.next) c.prepared-stream.ensures
