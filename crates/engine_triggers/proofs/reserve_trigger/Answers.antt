-- `reserve_trigger` meets its contract: one index is used.
use Rattle.std.proofs.Common.{refl}
use Rattle.engine_triggers.specs.Triggers.{reserved_of}
use Rattle.engine_triggers.proofs.reserve_trigger.Goals as goal

pub returns : goal.returns
unfolding reserved_of
returns c = record { index = refl; engine = refl }
