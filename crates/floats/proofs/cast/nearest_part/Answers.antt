-- `nearest_part` meets its contract: the three arms are the three cases of `closest`.
use Rattle.std.proofs.Common.{ℕ, ◌*◌, ◌/◌, ◌<◌, ◌≤◌, sym, le_trans, mod-lt, mul-le-mul_left, div-mul-le_self, arith}
use lib.Arith.{lt_of_le-ne}
use Rattle.floats.proofs.Narrow.{closest_below, closest_tie, closest_above}
use Rattle.floats.proofs.cast.nearest_part.Goals as goal

two_pos : (u : ℕ) → 2 ≤ u → 0 < u
two_pos u h = omega arith

half : (n u : ℕ) → 2 ≤ u → n / u * 2 ≤ n
half n u h = le_trans (mul-le-mul_left (n / u) h) (div-mul-le_self n u)

pub overflow_mul-r : goal.overflow_mul-r
overflow_mul-r c = omega (arith, mod-lt c.args.n (two_pos c.args.u c.requires.two_or_more))

pub overflow_add-result : goal.overflow_add-result
overflow_add-result c = omega (arith, half c.args.n c.args.u c.requires.two_or_more)

pub overflow_add-result-else-r-u-2 : goal.overflow_add-result-else-r-u-2
overflow_add-result-else-r-u-2 c = omega (arith, half c.args.n c.args.u c.requires.two_or_more)

pub returns-then-r-u : goal.returns-then-r-u
returns-then-r-u c = closest_below c.args.n c.args.u c.if-r-u.true

pub returns-then-r-u-2 : goal.returns-then-r-u-2
returns-then-r-u-2 c = closest_tie c.args.n c.args.u c.if-r-u-2.true

pub returns-else-r-u-2 : goal.returns-else-r-u-2
returns-else-r-u-2 c = closest_above c.args.n c.args.u (lt_of_le-ne c.if-r-u.false (λ e. c.if-r-u-2.false (sym e)))
