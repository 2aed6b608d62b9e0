-- `octave` meets its contract: the callees' answers, put together.
use Rattle.pitch.specs.Octave.{octaves_of, octave_of}
use Rattle.pitch.proofs.octaves.octave.Goals as goal

pub returns : goal.returns
unfolding octave_of octaves_of
returns c = rw (c.nearest_u32_to_f32.ensures, c.drawn-chosen.ensures, c.to_u32-count.ensures, c.floor-last.ensures, c.log_of_upper.ensures, c.first-first.ensures)
