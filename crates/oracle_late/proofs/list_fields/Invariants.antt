-- What the loop of `list_fields` keeps, and the measure by which it ends.
use Prim.Native.Nat.{◌+◌, ◌-◌, ◌≤◌, ◌<◌}
use mathlib.Core.Path.{◌≡◌}
use lib.ListN.{length}
use Rattle.oracle_late.specs.Late.{text_late}
use Rattle.oracle_late.proofs.LateText.{Goes}
use Rattle.oracle_late.proofs.list_fields.Given as goal

abbrev pub invariant-loop-turn : goal.invariant-loop-turn
invariant-loop-turn l =
    (l.at ≤ length l.script) × (0 < l.n) × (l.n ≤ l.at + 1) × (length l.out ≡ length l.initial.out) × Goes l.start l.script l.initial.out l.initial.w (text_late l.start (length l.script + 2 - l.initial.n) l.initial.run l.initial.n l.initial.at l.script) l.out l.run l.n l.at l.w

abbrev pub decreases-loop-turn : goal.decreases-loop-turn
decreases-loop-turn l = length l.script - l.at
