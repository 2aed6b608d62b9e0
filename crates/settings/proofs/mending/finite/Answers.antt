-- `finite` meets its contract: the callees' answers, put together.
use Rattle.settings.specs.Mending.{finite_or}
use Rattle.settings.proofs.mending.finite.Goals as goal

pub returns : goal.returns
unfolding finite_or
returns c = rw (c.pick.ensures, c.is_finite.ensures)
