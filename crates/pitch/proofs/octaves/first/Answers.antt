-- `first` meets its contract: the logarithm of 20 is computed once.
use Rattle.pitch.proofs.Logs.{log_of_min}
use Rattle.pitch.specs.Octave.{first_octave}
use Rattle.pitch.proofs.octaves.first.Goals as goal

pub returns : goal.returns
unfolding first_octave
returns c = rw log_of_min c.ceil.ensures
