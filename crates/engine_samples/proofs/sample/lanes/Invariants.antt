-- What the loop of `lanes` keeps.
use Rattle.std.proofs.Common.{◌≡◌, ◌≤◌}
use Rattle.sequences.specs.Times.{times}
use Rattle.engine_samples.proofs.Tries.{try}
use Rattle.engine_samples.proofs.sample.lanes.Given as goal

abbrev pub invariant-loop-k : goal.invariant-loop-k
invariant-loop-k l = (l.k ≤ 6) × (l.engine ≡ times (try l.reference) l.k l.initial.engine)
