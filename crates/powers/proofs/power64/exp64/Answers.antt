-- `exp64` meets its contract: the four arms are the four cases of `edged`.
use Rattle.std.proofs.Common.{◌≡◌, Bool, not, T, sym, ap, ◌∙◌, subst, arith}
use lib.Ieee.{binary64, neg, of_bits, to_bits}
use Rattle.floats.proofs.Facts.{ne_self}
use Rattle.floats.proofs.Narrow.{no_nan}
use Rattle.floats_laws.proofs.Numbers.{lt_left-number}
use Rattle.powers.specs.Exp64.{sided, exp_bits, exp64}
use Rattle.powers.proofs.Edges.{upper_edge, edged_nan, edged-within, edged-low, edged-high}
use Rattle.powers.proofs.Exp64Rises.{size_bits, exp_bits-under}
use Rattle.powers.proofs.power64.exp64.Goals as goal

right : (c : goal.After-pattern) → c.pattern.result ≡ exp_bits (sided (to_bits binary64 c.args.x))
unfolding exp_bits
right c = rw (c.pattern.ensures, c.mantissa-m.ensures.0, c.sided-w.ensures)

pub float_to_bits-x : goal.float_to_bits-x
unfolding of_bits
float_to_bits-x c = let x = c.args.x in subst (λ (b : Bool). T (not b)) (sym (lt_left-number x upper_edge c.if-x.true)) tt

pub sided-w-requires : goal.sided-w-requires
unfolding of_bits neg
sided-w-requires c = size_bits c.args.x (c.if-x.true, c.if-x-2.true)

pub float_from_bits-result : goal.float_from_bits-result
float_from_bits-result c = no_nan binary64 c.pattern.result (rw (right c) (exp_bits-under (sided (to_bits binary64 c.args.x))))

pub float_from_bits-result-else-x-3 : goal.float_from_bits-result-else-x-3
float_from_bits-result-else-x-3 c = no_nan binary64 9218868437227405312 (omega arith)

pub returns-then-x-2 : goal.returns-then-x-2
unfolding exp64 of_bits neg
returns-then-x-2 c = ap (of_bits binary64) (right c) ∙ sym (edged-within _ c.args.x c.if-x.true c.if-x-2.true)

pub returns-else-x-2 : goal.returns-else-x-2
unfolding exp64 of_bits neg
returns-else-x-2 c = sym (edged-low _ c.args.x c.if-x.true c.if-x-2.false)

pub returns-then-x-3 : goal.returns-then-x-3
unfolding exp64
returns-then-x-3 c = sym (edged_nan _ c.args.x c.if-x-3.true)

pub returns-else-x-3 : goal.returns-else-x-3
unfolding exp64 of_bits
returns-else-x-3 c = sym (edged-high _ c.args.x (sym (ne_self c.args.x) ∙ c.if-x-3.false) c.if-x.false)
