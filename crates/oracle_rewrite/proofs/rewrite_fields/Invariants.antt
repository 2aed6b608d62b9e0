-- What the loop of `rewrite_fields` keeps, and the measure by which it ends.
use Prim.Native.Nat.{◌+◌, ◌-◌, ◌≤◌, ◌<◌}
use mathlib.Core.Path.{◌≡◌}
use lib.ListN.{length}
use Rattle.oracle_rewrite.proofs.Onward.{Left}
use Rattle.oracle_rewrite.proofs.rewrite_fields.Given as goal

abbrev pub invariant-loop-n : goal.invariant-loop-n
invariant-loop-n l =
    (l.at ≤ length l.script) × (0 < l.n) × (l.n ≤ l.at + 1) × (length l.out ≡ length l.initial.out) × Left l.script l.initial.out l.out l.n l.at l.w

abbrev pub decreases-loop-n : goal.decreases-loop-n
decreases-loop-n l = length l.script - l.at
