-- `rem` at f32 meets its contract: `Remainders.rem_inside` and `Once.rem_once` for the early answers; behind them
-- `RemExact.rem_widens`, and f32 holds the remainder.
use Rattle.std.proofs.Common.{◌≡◌, not, T, sym, ap, ◌∙◌, subst}
use lib.Ieee.{Float, binary32, binary64, div, of_bits, is_nan, fits, rem}
use lib.Ieee.Compare.{differs_from_itself}
use lib.Ieee.Fits.{and_i, rem-fits}
use denote.Floats.{passes}
use Rattle.floats.proofs.Facts.{no_nan}
use Rattle.floats.proofs.Remainders.{rem_inside}
use Rattle.floats.proofs.Once.{rem_once}
use Rattle.floats.proofs.RemExact.{rem_widens}
use Rattle.floats.proofs.real.F32Real.rem.Goals as goal

is : (x m a b r : Float) → T (fits binary32 x) → T (fits binary32 m) → a ≡ x → b ≡ m → r ≡ rem binary64 a b → r ≡ rem binary32 x m
is x m a b r p q h k e = e ∙ ap (λ (z : Float). rem binary64 z b) h ∙ ap (rem binary64 x) k ∙ rem_widens x m p q

pub returns-then-m-self : goal.returns-then-m-self
unfolding of_bits
returns-then-m-self c = rem_inside binary32 c.args.self c.args.m (passes _ c.well_formed.0.1) c.if-self.true c.if-m-self.true

pub returns-then-m-rest : goal.returns-then-m-rest
unfolding of_bits
returns-then-m-rest c =
    rem_once binary32 c.args.self c.args.m (passes _ c.well_formed.1.0.1) c.if-self.true c.if-m-self.false c.if-m.true c.if-m-rest.true

pub float_to_float-result : goal.float_to_float-result
float_to_float-result c =
    let r = c.divided-r.result in
    and_i (fits binary32 r) (not (is_nan r))
    (subst (λ (v : Float). T (fits binary32 v))
    (sym (is c.args.self c.args.m _ _ _ (passes _ c.well_formed.0.1) (passes _ c.well_formed.1.0.1) c.wide.ensures c.wide-2.ensures c.divided-r.ensures))
    (rem-fits binary32 c.args.self c.args.m (passes _ c.well_formed.0.1)))
    (no_nan r c.if-r.false)

pub returns-then-r : goal.returns-then-r
unfolding div of_bits
returns-then-r c =
    sym (differs_from_itself c.divided-r.result (passes _ c.if-r.true))
    ∙ is c.args.self c.args.m _ _ _ (passes _ c.well_formed.0.1) (passes _ c.well_formed.1.0.1) c.wide.ensures c.wide-2.ensures c.divided-r.ensures

pub returns-else-r : goal.returns-else-r
returns-else-r c = is c.args.self c.args.m _ _ _ (passes _ c.well_formed.0.1) (passes _ c.well_formed.1.0.1) c.wide.ensures c.wide-2.ensures c.divided-r.ensures
