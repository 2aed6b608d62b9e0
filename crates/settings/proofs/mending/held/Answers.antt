-- `held` meets its contract: the callees' answers, put together.
use Rattle.settings.specs.Mending.{held_to}
use Rattle.settings.proofs.mending.held.Goals as goal

pub returns : goal.returns
unfolding held_to
returns c = rw (c.clamp.ensures, c.finite.ensures)
