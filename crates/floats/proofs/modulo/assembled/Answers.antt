-- `assembled` meets its contract: `Count` has the pattern of r * 2 ^ k smallest values.
use Rattle.std.proofs.Common.{◌≡◌, ℕ, ◌+◌, ◌-◌, ◌*◌, ◌^◌, ◌<◌, false, sym, ap, ◌∙◌, arith}
use lib.Count.{count_leading_zeros}
use lib.Ieee.{binary64, of_bits, round}
use Rattle.floats.proofs.Narrow.{no_nan}
use Rattle.floats.proofs.Count.{zeros-from, zeros-to, moved-under, subnormal, normal, nothing}
use Rattle.floats.proofs.modulo.assembled.Goals as goal

some : (r : ℕ) → (r ≡ 0 → ⊥) → 0 < r
some r h = omega arith

pub returns-then-r-eq0 : goal.returns-then-r-eq0
returns-then-r-eq0 c = nothing c.args.k ∙ ap (λ (r : ℕ). round binary64 false (r * 2 ^ c.args.k) (2 ^ 1074)) (sym c.if-r-eq0.true)

pub overflow_cast-z : goal.overflow_cast-z
overflow_cast-z c = omega (arith, zeros-to c.args.r (some _ c.if-r-eq0.false) c.requires.in_53_digits)

pub overflow_sub-z : goal.overflow_sub-z
overflow_sub-z c = zeros-from c.args.r (some _ c.if-r-eq0.false) c.requires.in_53_digits

pub moved-requires : goal.moved-requires
moved-requires c =
    let r = c.args.r in
    let R = some r c.if-r-eq0.false in
    (omega (arith, zeros-to r R c.requires.in_53_digits), omega (arith, moved-under r R c.requires.in_53_digits c.args.k (omega arith)))

pub float_from_bits-result : goal.float_from_bits-result
float_from_bits-result c =
    let r = c.args.r in
    no_nan binary64 c.moved.result (omega (arith, c.moved.ensures, moved-under r (some r c.if-r-eq0.false) c.requires.in_53_digits c.args.k (omega arith)))

pub returns-then-k-z : goal.returns-then-k-z
returns-then-k-z c =
    ap (of_bits binary64) c.moved.ensures ∙ subnormal c.args.r (some _ c.if-r-eq0.false) c.requires.in_53_digits c.args.k c.requires.exponent_fits c.if-k-z.true

pub moved-requires-2 : goal.moved-requires-2
moved-requires-2 c =
    let r = c.args.r in
    let R = some r c.if-r-eq0.false in
    (omega (arith, zeros-to r R c.requires.in_53_digits), omega (arith, moved-under r R c.requires.in_53_digits (count_leading_zeros 64 r - 11) (omega arith)))

pub overflow_add-result : goal.overflow_add-result
overflow_add-result c =
    let r = c.args.r in
    omega (arith, c.moved-2.ensures, moved-under r (some r c.if-r-eq0.false) c.requires.in_53_digits (count_leading_zeros 64 r - 11) (omega arith))

pub float_from_bits-result-2 : goal.float_from_bits-result-2
float_from_bits-result-2 c =
    let r = c.args.r in
    no_nan binary64 _ (omega (arith, c.moved-2.ensures, moved-under r (some r c.if-r-eq0.false) c.requires.in_53_digits (count_leading_zeros 64 r - 11) (omega arith)))

pub returns : goal.returns
returns c =
    let r = c.args.r in
    let k = c.args.k in
    ap (λ (q : ℕ). of_bits binary64 ((k - (count_leading_zeros 64 r - 11)) * 4503599627370496 + q)) c.moved-2.ensures
    ∙ normal r (some r c.if-r-eq0.false) c.requires.in_53_digits k c.requires.exponent_fits c.if-k-z.false
