-- What the loop of `put_pairs` keeps.
use lib.ListN.{length}
use lib.Seq.{paste}
use Rattle.mask_records.specs.Bytes.{pairs_of}
use Prim.Native.Nat.{◌*◌, ◌≤◌}
use mathlib.Core.Path.{◌≡◌}
use Rattle.mask_records.proofs.place.put_pairs.Given as goal

abbrev pub invariant-loop-i : goal.invariant-loop-i
invariant-loop-i l = (l.i ≤ length l.entries) × (length l.out ≡ length l.initial.out) × (l.out ≡ paste l.initial.out l.at (pairs_of l.entries) (2 * l.i))
