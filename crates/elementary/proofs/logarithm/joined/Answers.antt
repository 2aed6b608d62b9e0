-- `joined` meets its contract: the callee's answer, which is below 2^24, so that an f32 holds it.
use Prim.Native.Nat.{ℕ, ◌<◌}
use native.Mathlib.Nat.{le_of_lt}
use lib.Dec.{T, le→leb}
use lib.IntN.{pos}
use lib.Ieee.{binary32, in_float}
use Rattle.elementary.specs.Log2.{joined_of}
use Rattle.elementary.proofs.logarithm.joined.Goals as goal

exact : (n : ℕ) → n < 16777216 → T (in_float binary32 (pos n))
unfolding in_float
exact n h = le→leb n 16777216 (le_of_lt h)

pub int_to_float-result : goal.int_to_float-result
int_to_float-result c = exact _ c.fraction-f.ensures.1

pub returns : goal.returns
unfolding joined_of
returns c = rw c.fraction-f.ensures.0
