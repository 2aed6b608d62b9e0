-- `sqrt` meets its contract: one test after the other, then the root of the pattern, `RootNearest.sqrt-is`.
use mathlib.Core.Path.{◌≡◌, sym, ap, ◌∙◌}
use Prim.Native.Nat.{◌+◌, ◌*◌, ◌/◌}
use native.Mathlib.Omega.{arith}
use lib.Dec.{T}
use lib.Ieee.{binary32, fits, div, of_bits, to_bits}
use lib.Ieee.Positive.{positive}
use denote.Floats.{passes}
use Rattle.floats.proofs.Facts.{ne_self, no_nan}
use Rattle.floats.proofs.Narrow.{no_nan as no-nan-bits}
use Rattle.floats_laws.proofs.PositiveBits.{positive-above, positive-under}
use Rattle.elementary.specs.Sqrt.{root_bits, sqrt_of}
use Rattle.elementary.proofs.RootNearest.{Scaled, scaled, sqrt-is}
use Rattle.elementary.proofs.Tested.{past_tests}
use Rattle.elementary.proofs.root.sqrt.Goals as goal
use Rattle.elementary.proofs.root.sqrt.Goals.{After-nearest_root, Else-x-4}

-- past the tests x is finite and above zero
sound : (c : Else-x-4) → T (positive c.args.x)
unfolding div of_bits
sound c = past_tests _ c.if-x.false c.if-x-2.false c.if-x-3.false c.if-x-4.false

held : (c : Else-x-4) → T (fits binary32 c.args.x)
held c = passes _ c.well_formed.0.1

split : (c : Else-x-4) → Scaled (to_bits binary32 c.args.x)
split c = scaled _ (positive-above binary32 _ (held c) (sound c)) (positive-under binary32 _ (held c) (sound c))

whole : (c : After-nearest_root) → ((c.rung.result + 1) / 2 + 51) * 8388608 + c.nearest_root.result ≡ root_bits (to_bits binary32 c.args.x)
unfolding root_bits
whole c = rw (c.nearest_root.ensures, c.scaled.ensures, c.rung.ensures)

pub returns-then-x : goal.returns-then-x
unfolding sqrt_of div of_bits
returns-then-x c = rw (sym (ne_self c.args.x), c.if-x.true)

pub returns-then-x-2 : goal.returns-then-x-2
unfolding sqrt_of div of_bits
returns-then-x-2 c = rw (sym (ne_self c.args.x), c.if-x.false, c.if-x-2.true)

pub returns-then-x-3 : goal.returns-then-x-3
unfolding sqrt_of of_bits
returns-then-x-3 c = rw (sym (ne_self c.args.x), c.if-x.false, c.if-x-2.false, c.if-x-3.true)

pub returns-then-x-4 : goal.returns-then-x-4
unfolding sqrt_of div of_bits
returns-then-x-4 c = rw (sym (ne_self c.args.x), c.if-x.false, c.if-x-2.false, c.if-x-3.false, c.if-x-4.true)

pub float_to_bits-b : goal.float_to_bits-b
float_to_bits-b c = no_nan c.args.x c.if-x.false

pub rung-requires : goal.rung-requires
rung-requires c = positive-above binary32 _ (held c) (sound c)

pub scaled-requires : goal.scaled-requires
scaled-requires c = (positive-above binary32 _ (held (goal.at.scaled-requires c).Else-x-4) (sound (goal.at.scaled-requires c).Else-x-4), positive-under binary32 _ (held (goal.at.scaled-requires c).Else-x-4) (sound (goal.at.scaled-requires c).Else-x-4))

pub nearest_root-requires : goal.nearest_root-requires
nearest_root-requires c = (omega (arith, c.scaled.ensures, (split (goal.at.nearest_root-requires c).Else-x-4).from), omega (arith, c.scaled.ensures, (split (goal.at.nearest_root-requires c).Else-x-4).to))

pub overflow_add-result : goal.overflow_add-result
overflow_add-result c = omega (arith, whole c, (split (goal.at.overflow_add-result c).Else-x-4).under)

pub overflow_cast-result : goal.overflow_cast-result
overflow_cast-result c = omega (arith, whole c, (split (goal.at.overflow_cast-result c).Else-x-4).under)

pub float_from_bits-result : goal.float_from_bits-result
float_from_bits-result c = no-nan-bits binary32 _ (omega (arith, whole c, (split (goal.at.float_from_bits-result c).Else-x-4).under))

pub returns : goal.returns
returns c = ap (of_bits binary32) (whole c) ∙ sym (sqrt-is _ (sound (goal.at.returns c).Else-x-4))
