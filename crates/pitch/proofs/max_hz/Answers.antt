-- `max_hz` meets its contract: the callees' answers, put together.
use Rattle.pitch.specs.Highest.{max_hz_of}
use Rattle.pitch.proofs.max_hz.Goals as goal

pub returns : goal.returns
unfolding max_hz_of
returns c = rw (c.min.ensures, c.f64_to_f32.ensures)
