-- `tilt` meets its contract.
use Rattle.pitch.specs.Octave.{tilt_of}
use Rattle.pitch.proofs.octaves.tilt.Goals as goal

pub returns : goal.returns
unfolding tilt_of
returns c = c.pick.ensures
