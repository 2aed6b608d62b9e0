-- `seconds` meets its contract: the difference that wraps is the definition's, and a small one is a
-- float as it stands.
use Rattle.std.proofs.Common.{ℕ, ◌<◌, T, pos, refl, arith, le→leb}
use lib.Ieee.{binary64, in_float}
use Rattle.frame.specs.Freed.{seconds_of}
use Rattle.frame.proofs.places.seconds.Goals as goal

exact : (n : ℕ) → n < 4294967296 → T (in_float binary64 (pos n))
unfolding in_float
exact n h = le→leb n 9007199254740992 (omega arith)

pub int_to_float-result : goal.int_to_float-result
int_to_float-result c = exact _ c.if-elapsed-lt4294967296.true

pub returns-then-elapsed-lt4294967296 : goal.returns-then-elapsed-lt4294967296
unfolding seconds_of
returns-then-elapsed-lt4294967296 c = refl

pub returns : goal.returns
unfolding seconds_of
returns c = rw c.nearest_u64_to_f64.ensures
