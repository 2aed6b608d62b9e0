-- What the loop of `number` keeps.
use Prim.Native.Nat.{◌+◌, ◌*◌, ◌^◌, ◌<◌}
use mathlib.Core.Path.{◌≡◌}
use lib.ListN.{get_or}
use Rattle.sequences.specs.Times.{times}
use Rattle.vectors.specs.Line.{digit_of}
use Rattle.vectors.proofs.number.Given as goal

abbrev pub invariant-loop-b : goal.invariant-loop-b
invariant-loop-b l = (l.w ≡ times (λ i' w'. w' * 16 + digit_of (get_or l.line (l.at + i') 0)) l.b-index 0) × (l.w < 2 ^ (4 * l.b-index))
