-- `power` meets its contract: the four arms are the four cases of `edged`; between the edges z is a number.
use Rattle.std.proofs.Common.{◌≡◌, Bool, true, not, T, sym, ◌∙◌, subst, arith}
use lib.Ieee.{Float, binary32, binary64, fits, is_nan, add, mul, lt, neg, of_bits}
use lib.Ieee.Fits.{fits_widens, and_i}
use lib.Ieee.Scale.{finite}
use denote.Floats.{passes}
use Rattle.floats.proofs.Facts.{ne_self}
use Rattle.floats.proofs.Narrow as Narrow
use Rattle.floats_laws.proofs.Numbers.{lt_left-number, inside-finite, mul_number}
use Rattle.floats_laws.proofs.Rules.{add_number}
use Rattle.powers.specs.Power.{power, lifted}
use Rattle.powers.proofs.Edges.{upper_edge, lower_edge, edged_nan, edged-within, edged-low, edged-high}
use Rattle.powers.proofs.power.power.Goals as goal

number : (x : Float) → lt x upper_edge ≡ true → T (not (is_nan x))
number x h = subst (λ (b : Bool). T (not b)) (sym (lt_left-number x upper_edge h)) tt

z-number : (c x k : Float) → T (finite c) → T (finite k) → lt x upper_edge ≡ true → lt lower_edge x ≡ true → T (not (is_nan (add binary64 (mul binary64 x c) k)))
z-number c x k u v h l = add_number binary64 (mul binary64 x c) k (mul_number binary64 x c (inside-finite lower_edge x upper_edge tt tt l h) u) v

pub float_to_float-z : goal.float_to_float-z
unfolding of_bits
float_to_float-z c =
    let x = c.args.x in
    and_i (fits binary64 x) (not (is_nan x)) (fits_widens x (passes _ c.well_formed.0.1)) (number x c.if-x.true)

pub float_to_bits-z : goal.float_to_bits-z
unfolding of_bits neg
float_to_bits-z c = z-number c.args.c c.args.x _ c.requires tt c.if-x.true c.if-x-2.true

pub float_from_bits-result : goal.float_from_bits-result
float_from_bits-result c = Narrow.no_nan binary32 2139095040 (omega arith)

pub returns-then-x-2 : goal.returns-then-x-2
unfolding power lifted of_bits neg
returns-then-x-2 c = c.placed_at.ensures ∙ sym (edged-within _ c.args.x c.if-x.true c.if-x-2.true)

pub returns-else-x-2 : goal.returns-else-x-2
unfolding power of_bits neg
returns-else-x-2 c = sym (edged-low _ c.args.x c.if-x.true c.if-x-2.false)

pub returns-then-x-3 : goal.returns-then-x-3
unfolding power
returns-then-x-3 c = sym (edged_nan _ c.args.x c.if-x-3.true)

pub returns-else-x-3 : goal.returns-else-x-3
unfolding power of_bits
returns-else-x-3 c = sym (edged-high _ c.args.x (sym (ne_self c.args.x) ∙ c.if-x-3.false) c.if-x.false)
