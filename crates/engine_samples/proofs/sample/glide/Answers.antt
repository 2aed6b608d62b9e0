-- `glide` meets its contract: the callees' answers, put together.
use Rattle.engine_samples.specs.Sample.{glided_of}
use Rattle.engine_samples.proofs.sample.glide.Goals as goal

pub returns : goal.returns
unfolding glided_of
returns c = rw (c.within_a_cycle-difference.ensures, c.from.ensures)
