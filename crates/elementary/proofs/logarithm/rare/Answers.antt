-- `rare` meets its contract: one test after the other, then the logarithm of the pattern, `Tested.log_is`.
use mathlib.Core.Path.{sym, ◌∙◌}
use native.Mathlib.Omega.{arith}
use lib.Dec.{T}
use lib.Ieee.{binary32, fits, div, neg, of_bits, to_bits}
use lib.Ieee.Positive.{positive}
use denote.Floats.{passes}
use Rattle.floats.proofs.Facts.{ne_self, no_nan}
use Rattle.floats_laws.proofs.PositiveBits.{positive-above, positive-under}
use Rattle.elementary.specs.Log2.{log_of, log2_of}
use Rattle.elementary.proofs.Rungs.{Parts, parts}
use Rattle.elementary.proofs.Tested.{past_tests, log_is}
use Rattle.elementary.proofs.logarithm.rare.Goals as goal
use Rattle.elementary.proofs.logarithm.rare.Goals.{Else-x-4}

-- past the tests x is finite and above zero
sound : (c : Else-x-4) → T (positive c.args.x)
unfolding div of_bits
sound c = past_tests _ c.if-x.false c.if-x-2.false c.if-x-3.false c.if-x-4.false

held : (c : Else-x-4) → T (fits binary32 c.args.x)
held c = passes _ c.well_formed.0.1

split : (c : Else-x-4) → Parts (to_bits binary32 c.args.x)
split c = parts _ (positive-above binary32 _ (held c) (sound c)) (positive-under binary32 _ (held c) (sound c))

pub returns-then-x : goal.returns-then-x
unfolding log2_of div of_bits
returns-then-x c = rw (sym (ne_self c.args.x), c.if-x.true)

pub returns-then-x-2 : goal.returns-then-x-2
unfolding log2_of div of_bits
returns-then-x-2 c = rw (sym (ne_self c.args.x), c.if-x.false, c.if-x-2.true)

pub returns-then-x-3 : goal.returns-then-x-3
unfolding log2_of div of_bits neg
returns-then-x-3 c = rw (sym (ne_self c.args.x), c.if-x.false, c.if-x-2.false, c.if-x-3.true)

pub returns-then-x-4 : goal.returns-then-x-4
unfolding log2_of div of_bits
returns-then-x-4 c = rw (sym (ne_self c.args.x), c.if-x.false, c.if-x-2.false, c.if-x-3.false, c.if-x-4.true)

pub float_to_bits-b : goal.float_to_bits-b
float_to_bits-b c = no_nan c.args.x c.if-x.false

pub rung-requires : goal.rung-requires
rung-requires c = positive-above binary32 _ (held c) (sound c)

pub overflow_cast-rung : goal.overflow_cast-rung
overflow_cast-rung c = omega (arith, c.rung.ensures, (split (goal.at.overflow_cast-rung c).Else-x-4).few)

pub digits-requires : goal.digits-requires
digits-requires c = let at = (goal.at.digits-requires c).Else-x-4 in positive-above binary32 _ (held at) (sound at)

pub overflow_sub-digits : goal.overflow_sub-digits
overflow_sub-digits c = rw c.digits.ensures (split (goal.at.overflow_sub-digits c).Else-x-4).from

pub joined-requires : goal.joined-requires
joined-requires c = rw c.digits.ensures (omega (arith, (split (goal.at.joined-requires c).Else-x-4).from, (split (goal.at.joined-requires c).Else-x-4).to))

pub returns : goal.returns
unfolding log_of
returns c =
    c.joined.ensures ∙ rw (c.rung.ensures, c.digits.ensures) (sym (log_is c.args.x (sound (goal.at.returns c).Else-x-4)))
