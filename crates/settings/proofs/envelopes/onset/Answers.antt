-- `onset` meets its contract: the callee's answer.
use Rattle.settings.specs.Envelope.{onset_of}
use Rattle.settings.proofs.envelopes.onset.Goals as goal

pub returns : goal.returns
unfolding onset_of
returns c = rw c.max.ensures
