-- `raw` meets its contract: the callees' answers, put together.
use Rattle.settings.specs.Envelope.{raw_of, variation_of}
use Rattle.settings.proofs.envelopes.raw.Goals as goal

pub returns : goal.returns
unfolding raw_of variation_of
returns c = rw (c.sqrt-2.ensures, c.sqrt.ensures, c.random-draw.ensures)
