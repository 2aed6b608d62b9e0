-- `sprinkle` meets its contract: the callees' answers, put together.
use Rattle.settings.specs.Envelope.{sprinkle_contour}
use Rattle.settings.proofs.envelopes.sprinkle.Goals as goal

pub returns : goal.returns
unfolding sprinkle_contour
returns c = rw (c.release-release.ensures, c.onset-onset.ensures)
