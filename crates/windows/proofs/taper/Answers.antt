-- `taper` meets its contract: the callees' answers, put together.
use Rattle.windows.specs.Opening.{taper_of}
use Rattle.windows.proofs.taper.Goals as goal

pub returns : goal.returns
unfolding taper_of
returns c = rw (c.bent.ensures, c.clamp.ensures)
