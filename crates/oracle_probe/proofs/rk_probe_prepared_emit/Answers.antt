-- `rk_probe_prepared_emit` meets its contract: the field of what `prepared` gives.
use Rattle.std.proofs.Common.{ap}
use Rattle.timing.specs.declared.SprinkleStream.{SprinkleStream}
use Rattle.oracle_probe.proofs.rk_probe_prepared_emit.Goals as goal

pub returns : goal.returns
returns c = ap (λ (s : SprinkleStream). s.emit) c.prepared-stream.ensures
