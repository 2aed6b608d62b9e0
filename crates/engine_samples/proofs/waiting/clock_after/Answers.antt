-- `clock_after` meets its contract: the clock part by part.
use mathlib.Core.Path.{refl}
use Rattle.engine_samples.proofs.Waits.{clock-after}
use Rattle.engine_samples.proofs.waiting.clock_after.Goals as goal

pub returns : goal.returns
returns c = clock-after _ _ _ _ _ _ _ refl c.pick-phase.ensures c.glide-phase_offset.ensures
