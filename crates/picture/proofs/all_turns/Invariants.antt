-- `all_turns` meets its contract: the turns are counted, and a count ends.
use mathlib.Core.Path.{◌≡◌}
use Prim.Native.Nat.{◌≤◌}
use lib.ListN.{length}
use Rattle.picture.proofs.all_turns.Given as goal

abbrev pub invariant-loop-before : goal.invariant-loop-before
invariant-loop-before l =
    (l.before ≤ 18446744073709551615) × (length l.bytes ≡ length l.initial.bytes) × (length l.entries ≡ length l.initial.entries) × (length l.line ≡ length l.initial.line)
