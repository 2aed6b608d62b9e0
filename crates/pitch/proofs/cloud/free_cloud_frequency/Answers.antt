-- `free_cloud_frequency` meets its contract: the callees' answers, put together; the logarithm of 20 is computed once.
use Rattle.pitch.proofs.Logs.{log_of_min}
use Rattle.pitch.specs.Cloud.{frequency_of}
use Rattle.pitch.proofs.cloud.free_cloud_frequency.Goals as goal

pub returns : goal.returns
unfolding frequency_of
returns c = rw (log_of_min, c.exp2.ensures, c.offset-offset.ensures, c.random-draw.ensures, c.mass-mass.ensures, c.slope-slope.ensures, c.ramp-ramp.ensures, c.log2.ensures)
