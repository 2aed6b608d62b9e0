-- `hop_floor` meets its contract: one conversion, one product, one quotient.
use Rattle.settings.specs.Envelope.{hop_floor_of}
use Rattle.settings.proofs.envelopes.hop_floor.Goals as goal

pub returns : goal.returns
unfolding hop_floor_of
returns c = rw c.u64_to_f32.ensures
