-- What the loop of `wait_at_rest` keeps, and the measure by which it ends.
use Rattle.engine_samples.specs.Waiting.{Underway, clock_of}
use Rattle.engine_samples.specs.Sample.{glided_of}
use Rattle.std.proofs.Common.{◌≡◌, ◌-◌}
use Rattle.engine_samples.proofs.waiting.wait_at_rest.Given as goal

abbrev pub invariant-loop-count : goal.invariant-loop-count
invariant-loop-count l =
    (glided_of l.phase_offset l.tempo.phase l.tempo.alpha ≡ l.phase_offset) × Underway l.starts l.tempo l.n (clock_of l.initial.sample l.initial.phase l.phase_offset) l.count (clock_of l.sample l.phase l.phase_offset)

abbrev pub decreases-loop-count : goal.decreases-loop-count
decreases-loop-count l = l.n - l.count
