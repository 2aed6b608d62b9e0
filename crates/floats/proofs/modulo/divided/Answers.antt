-- `divided` meets its contract: `Division` has each path of the code.
use Rattle.std.proofs.Common.{◌≡◌, ℕ, ◌%◌, ◌^◌, ◌<◌, ◌≤◌, ◌∙◌, mod-lt, arith}
use lib.Ieee.{of_bits, div}
use denote.Floats.{passes}
use Rattle.floats.proofs.Division.{not_finite, by_nan, by_zero, short, long-is}
use Rattle.floats.proofs.modulo.divided.Goals as goal

left_over : (r a n : ℕ) → r ≡ a % n → 0 < n → n ≤ 2 ^ 53 → r < 2 ^ 53
left_over r a n e p h = omega (arith, e, mod-lt a p)

pub returns-then-a-ge9218868437227405312 : goal.returns-then-a-ge9218868437227405312
unfolding div of_bits
returns-then-a-ge9218868437227405312 c =
    not_finite c.args.x c.args.m (passes _ c.well_formed.0.1) (passes _ c.well_formed.1.0.1) (omega (arith, c.f64_to_bits_with_nan-p.ensures, c.if-a-ge9218868437227405312.true))

pub returns-then-b-gt9218868437227405312 : goal.returns-then-b-gt9218868437227405312
unfolding div of_bits
returns-then-b-gt9218868437227405312 c =
    by_nan c.args.x c.args.m (passes _ c.well_formed.0.1) (passes _ c.well_formed.1.0.1) (omega (arith, c.f64_to_bits_with_nan-b.ensures, c.if-b-gt9218868437227405312.true))

pub returns-then-i-j : goal.returns-then-i-j
returns-then-i-j c =
    let ex = c.f64_to_bits_with_nan-p.ensures in
    let em = c.f64_to_bits_with_nan-b.ensures in
    let ei = c.shift-i.ensures in
    let ej = c.shift-j.ensures in
    short c.args.x c.args.m (passes _ c.well_formed.0.1) (passes _ c.well_formed.1.0.1) (omega (arith, ex, c.if-a-ge9218868437227405312.false)) (omega (arith, em, c.if-b-gt9218868437227405312.false))
    (omega (arith, ex, em, ei, ej, c.if-i-j.true))

pub returns-then-b-eq0 : goal.returns-then-b-eq0
unfolding div of_bits
returns-then-b-eq0 c =
    by_zero c.args.x c.args.m (passes _ c.well_formed.0.1) (passes _ c.well_formed.1.0.1) (omega (arith, c.f64_to_bits_with_nan-b.ensures, c.if-b-eq0.true))

pub assembled-v-requires : goal.assembled-v-requires
assembled-v-requires c = record { in_53_digits = left_over _ _ _ c.scaled_rem-r.ensures (omega arith) (omega arith); exponent_fits = omega arith }

pub returns : goal.returns
returns c =
    c.pick.ensures
    ∙ long-is c.args.x c.args.m (passes _ c.well_formed.0.1) (passes _ c.well_formed.1.0.1) c.f64_to_bits_with_nan-p.result c.f64_to_bits_with_nan-b.result _ _ _ _ c.f64_to_bits_with_nan-p.ensures c.f64_to_bits_with_nan-b.ensures
    c.shift-i.ensures c.shift-j.ensures c.if-a-ge9218868437227405312.false (omega (arith, c.if-b-eq0.false))
    c.if-b-gt9218868437227405312.false c.if-i-j.false c.scaled_rem-r.ensures c.assembled-v.ensures
