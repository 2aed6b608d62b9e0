-- `values_of` meets its contract: the callees' answers, put together.
use Rattle.script_steps.specs.Values.{values_of}
use Rattle.script_steps.proofs.values.values_of.Goals as goal

pub returns : goal.returns
unfolding values_of
returns c = rw (c.bits.ensures, c.active_count.ensures, c.milliseconds.ensures, c.f64_to_f32.ensures, c.elapsed_samples-sample.ensures)
