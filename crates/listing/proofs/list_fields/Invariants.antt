-- What the loop of `list_fields` keeps, and the measure by which it ends.
use Rattle.std.proofs.Common.{◌≡◌, ◌+◌, ◌-◌, ◌<◌, ◌≤◌, length}
use Rattle.listing.specs.Printed.{text_from}
use Rattle.listing.proofs.Laws.{Goes}
use Rattle.listing.proofs.list_fields.Given as goal

abbrev pub invariant-loop-reached : goal.invariant-loop-reached
invariant-loop-reached l =
    (l.at ≤ length l.script) × (0 < l.n) × (l.n ≤ l.at + 1) × (length l.out ≡ length l.initial.out) × Goes l.script l.initial.out l.initial.w (text_from (length l.script + 2 - l.initial.n) l.initial.run l.initial.n l.initial.at l.script) l.out l.run l.n l.at l.w

abbrev pub decreases-loop-reached : goal.decreases-loop-reached
decreases-loop-reached l = length l.script - l.at
