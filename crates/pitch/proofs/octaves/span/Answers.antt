-- `span` meets its contract.
use Rattle.pitch.specs.Octave.{span_of}
use Rattle.pitch.proofs.octaves.span.Goals as goal

pub returns : goal.returns
unfolding span_of
returns c = rw (c.nearest_u32_to_f32.ensures, c.last.ensures)
