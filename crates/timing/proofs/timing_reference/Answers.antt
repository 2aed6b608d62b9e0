-- `timing_reference` meets its contract: the callees' answers, put together.
use Rattle.timing.specs.Streams.{reference_of}
use Rattle.timing.proofs.timing_reference.Goals as goal

pub returns : goal.returns
unfolding reference_of
returns c = rw (c.from.ensures, c.nearest_u64_to_f64-middle.ensures, c.random-draw.ensures)
