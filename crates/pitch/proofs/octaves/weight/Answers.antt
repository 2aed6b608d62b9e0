-- `weight` meets its contract.
use Rattle.pitch.specs.Octave.{weight_of}
use Rattle.pitch.proofs.octaves.weight.Goals as goal

pub returns : goal.returns
unfolding weight_of
returns c = rw (c.register_probability.ensures, c.tilt-tilt.ensures, c.nearest_u32_to_f32-step.ensures)
