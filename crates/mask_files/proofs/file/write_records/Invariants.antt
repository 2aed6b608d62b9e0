-- What the loop of `write_records` keeps, and the measure by which it ends.
use Rattle.std.proofs.Common.{◌≡◌, ◌-◌, length}
use Rattle.mask_files.proofs.Passes.{Writing}
use Rattle.mask_files.proofs.file.write_records.Given as goal

abbrev pub invariant-loop-after : goal.invariant-loop-after
invariant-loop-after l = (length l.scratch ≡ length l.initial.scratch) × (length l.out ≡ length l.initial.out) × Writing l.depth_db l.logs l.script l.initial.out l.initial.at l.out l.walk l.at

abbrev pub decreases-loop-after : goal.decreases-loop-after
decreases-loop-after l = length l.script - l.walk.at
