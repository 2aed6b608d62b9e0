-- `drawn` meets its contract: the callees' answers, put together.
use Rattle.pitch.specs.Octave.{octave_drawn}
use Rattle.pitch.proofs.octaves.drawn.Goals as goal

pub returns : goal.returns
unfolding octave_drawn
returns c = rw (c.chosen.ensures, c.total.ensures, c.random.ensures, c.span-span.ensures)
