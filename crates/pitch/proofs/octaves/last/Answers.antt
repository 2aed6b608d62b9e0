-- `last` meets its contract.
use Rattle.pitch.specs.Octave.{last_octave}
use Rattle.pitch.proofs.octaves.last.Goals as goal

pub returns : goal.returns
unfolding last_octave
returns c = c.wrapping_add_u32.ensures.value
