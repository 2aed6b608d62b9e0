-- What the loop of `wait_gliding` keeps, and the measure by which it ends.
use Rattle.engine_samples.specs.Waiting.{Underway, clock_of}
use Rattle.std.proofs.Common.{◌-◌}
use Rattle.engine_samples.proofs.waiting.wait_gliding.Given as goal

abbrev pub invariant-loop-count : goal.invariant-loop-count
invariant-loop-count l =
    Underway l.starts l.tempo l.n (clock_of l.initial.sample l.initial.phase l.initial.phase_offset) l.count (clock_of l.sample l.phase l.phase_offset)

abbrev pub decreases-loop-count : goal.decreases-loop-count
decreases-loop-count l = l.n - l.count
