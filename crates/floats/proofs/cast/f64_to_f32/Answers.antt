-- `f64_to_f32` meets its contract: the size by `narrowed`, the sign through the rounding.
use Rattle.std.proofs.Common.{◌≡◌, ◌-◌, Bool, false, not, T, sym, ap, ◌∙◌, subst, arith}
use lib.Ieee.{Float, binary32, binary64, of_bits, to_bits, div, is_nan, neg, ne}
use lib.Ieee.Compare.{differs_from_itself}
use lib.Ieee.Bits.{of_bits-to_bits, to_bits-lt}
use denote.Floats.{passes}
use Rattle.floats.specs.Convert.{convert}
use Rattle.floats.proofs.Facts.{ne_self}
use Rattle.floats.proofs.Narrow.{at_most_inf, signed, convert_neg}
use Rattle.floats.proofs.cast.f64_to_f32.Goals as goal

no_nan : (x : Float) → ne x x ≡ false → is_nan x ≡ false
no_nan x h = sym (ne_self x) ∙ h

pub float_to_bits-b : goal.float_to_bits-b
float_to_bits-b c = subst (λ (t : Bool). T (not t)) (sym (no_nan c.args.x c.if-x.false)) tt

pub narrowed-requires : goal.narrowed-requires
narrowed-requires c =
    let h = at_most_inf binary64 c.args.x (passes _ c.well_formed.0.1) (no_nan c.args.x c.if-x.false) in
    omega arith

pub narrowed-requires-else-b-lt9223372036854775808 : goal.narrowed-requires-else-b-lt9223372036854775808
narrowed-requires-else-b-lt9223372036854775808 c =
    let h = at_most_inf binary64 c.args.x (passes _ c.well_formed.0.1) (no_nan c.args.x c.if-x.false) in
    omega (arith, to_bits-lt binary64 c.args.x (passes _ c.well_formed.0.1))

pub returns-then-x : goal.returns-then-x
unfolding div of_bits convert
returns-then-x c = ap (convert binary32) (sym (differs_from_itself c.args.x (passes _ c.if-x.true)))

pub returns-then-b-lt9223372036854775808 : goal.returns-then-b-lt9223372036854775808
returns-then-b-lt9223372036854775808 c =
    c.narrowed.ensures ∙ ap (convert binary32) (of_bits-to_bits binary64 c.args.x (passes _ c.well_formed.0.1))

pub returns-else-b-lt9223372036854775808 : goal.returns-else-b-lt9223372036854775808
returns-else-b-lt9223372036854775808 c =
    let x = c.args.x in
    let b = to_bits binary64 x in
    let t = passes _ c.well_formed.0.1 in
    ap neg c.narrowed-else-b-lt9223372036854775808.ensures ∙ sym (convert_neg binary32 (of_bits binary64 (b - 9223372036854775808)))
    ∙ ap (convert binary32) (sym (signed binary64 b c.if-b-lt9223372036854775808.false (to_bits-lt binary64 x t)) ∙ of_bits-to_bits binary64 x t)
