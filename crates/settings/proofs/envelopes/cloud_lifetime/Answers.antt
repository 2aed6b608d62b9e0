-- `cloud_lifetime` meets its contract: the callees' answers, put together.
use Rattle.settings.specs.Envelope.{cloud_lifetime_of}
use Rattle.settings.proofs.envelopes.cloud_lifetime.Goals as goal

pub returns : goal.returns
unfolding cloud_lifetime_of
returns c = rw (c.clamp.ensures, c.max.ensures, c.raw.ensures, c.max-minimum.ensures)
