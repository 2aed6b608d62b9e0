-- What the loop of `wait` keeps, and the measure by which it ends.
use Rattle.std.proofs.Common.{◌-◌, T}
use lib.Ieee.{binary64, fits}
use Rattle.engine_samples.specs.Waiting.{Underway, clock_of}
use Rattle.engine_samples.proofs.waiting.wait.Given as goal

abbrev pub invariant-loop-count : goal.invariant-loop-count
invariant-loop-count l =
    T (fits binary64 l.phase_offset) × Underway l.starts l.tempo l.n (clock_of l.initial.sample l.initial.phase l.initial.phase_offset) l.count (clock_of l.sample l.phase l.phase_offset)

abbrev pub decreases-loop-count : goal.decreases-loop-count
decreases-loop-count l = l.n - l.count
