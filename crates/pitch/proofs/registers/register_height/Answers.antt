-- `register_height` meets its contract: the two logarithms are computed once.
use Rattle.pitch.proofs.Logs.{log_of_min, log_of_range}
use Rattle.pitch.specs.Register.{height_of}
use Rattle.pitch.proofs.registers.register_height.Goals as goal

pub returns : goal.returns
unfolding height_of
returns c = rw (log_of_min, log_of_range) c.clamp.ensures
