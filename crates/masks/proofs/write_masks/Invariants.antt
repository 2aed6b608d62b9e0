-- What the loop of `write_masks` keeps, and the measure by which it ends.
use Rattle.std.proofs.Common.{◌≡◌, ◌-◌, ◌≤◌, length}
use Rattle.masks.proofs.write_masks.Given as goal

abbrev pub invariant-loop-after : goal.invariant-loop-after
invariant-loop-after l = (length l.scratch ≡ length l.initial.scratch) × (length l.out ≡ length l.initial.out) × (length l.text ≡ length l.initial.text) × (l.walk.at ≤ length l.script)

abbrev pub decreases-loop-after : goal.decreases-loop-after
decreases-loop-after l = length l.script - l.walk.at
