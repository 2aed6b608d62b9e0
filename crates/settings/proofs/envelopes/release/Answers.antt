-- `release` meets its contract: the callees' answers, put together.
use Rattle.settings.specs.Envelope.{release_of}
use Rattle.settings.proofs.envelopes.release.Goals as goal

pub returns : goal.returns
unfolding release_of
returns c = rw (c.max.ensures, c.max-stage.ensures)
