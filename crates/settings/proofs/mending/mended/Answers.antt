-- `mended` meets its contract: the callees' answers, field by field.
use Rattle.settings.specs.Mending.{mended_of}
use Rattle.settings.proofs.mending.mended.Goals as goal

pub returns : goal.returns
unfolding mended_of
returns c = rw (c.phase-phase.ensures, c.held-size_octaves.ensures, c.held-rate_hz.ensures, c.held-partial_rolloff_db.ensures, c.partials-partials.ensures, c.held-release_ms.ensures, c.held-attack_ms.ensures)
