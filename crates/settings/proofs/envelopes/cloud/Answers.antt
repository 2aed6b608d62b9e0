-- `cloud` meets its contract: the callees' answers, put together.
use Rattle.settings.specs.Envelope.{cloud_contour}
use Rattle.settings.proofs.envelopes.cloud.Goals as goal

pub returns : goal.returns
unfolding cloud_contour
returns c = rw (c.cloud_attack.ensures, c.cloud_lifetime.ensures)
