-- What the loop of `measure` keeps, and the measure by which it ends.
use Rattle.std.proofs.Common.{◌≡◌, ◌-◌, length}
use Rattle.mask_files.proofs.Passes.{Measuring}
use Rattle.mask_files.proofs.file.measure.Given as goal

abbrev pub invariant-loop-after : goal.invariant-loop-after
invariant-loop-after l = (length l.scratch ≡ length l.initial.scratch) × (length l.lent ≡ length l.initial.lent) × Measuring l.depth_db l.logs l.script l.walk l.bytes

abbrev pub decreases-loop-after : goal.decreases-loop-after
decreases-loop-after l = length l.script - l.walk.at
