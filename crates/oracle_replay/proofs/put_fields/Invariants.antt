-- What the loop of `put_fields` keeps, and the measure by which it ends.
use Prim.Native.Nat.{◌+◌, ◌-◌, ◌≤◌, ◌<◌}
use mathlib.Core.Path.{◌≡◌}
use lib.ListN.{length}
use Rattle.oracle_replay.specs.Replay.{left_from}
use Rattle.oracle_replay.proofs.Left.{Goes}
use Rattle.oracle_replay.proofs.put_fields.Given as goal

abbrev pub invariant-loop-run : goal.invariant-loop-run
invariant-loop-run l =
    (l.at ≤ length l.script) × (0 < l.n) × (l.n ≤ l.at + 1) × (length l.out ≡ length l.initial.out) × Goes l.start l.script l.initial.out l.initial.w (left_from l.start (length l.script + 2 - l.initial.n) l.initial.run l.initial.n l.initial.at l.script) l.out l.run l.n l.at l.w

abbrev pub decreases-loop-run : goal.decreases-loop-run
decreases-loop-run l = length l.script - l.at
