-- `phase` meets its contract: the callees' answers, put together.
use Rattle.settings.specs.Mending.{phase_of}
use Rattle.settings.proofs.mending.phase.Goals as goal

pub returns : goal.returns
unfolding phase_of
returns c = rw (c.rem_euclid.ensures, c.finite.ensures)
