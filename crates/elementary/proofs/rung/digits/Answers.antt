-- `digits` meets its contract: `Rungs.digits-normal` or `Rungs.digits_low`.
use mathlib.Core.Path.{sym, ◌∙◌, subst}
use Prim.Native.Nat.{ℕ, ◌^◌, ◌<◌}
use native.Mathlib.Nat.{mod-eq_of_lt}
use native.Mathlib.Omega.{arith}
use Rattle.elementary.proofs.Rungs.{Low, low_facts, low_parts, digits-normal, digits_low}
use Rattle.elementary.proofs.rung.digits.Goals as goal
use Rattle.elementary.proofs.rung.digits.Goals.{Else-b-ge8388608}

low : (c : Else-b-ge8388608) → Low c.args.b
low c = low_facts c.args.b c.requires c.if-b-ge8388608.false

small : (n : ℕ) → n < 16777216 → n < 2 ^ 64
small n h = omega arith

pub overflow_sub-k : goal.overflow_sub-k
overflow_sub-k c = omega (arith, (low c).zeros, (low c).few)

pub overflow_cast-result-else-b-ge8388608-2 : goal.overflow_cast-result-else-b-ge8388608-2
overflow_cast-result-else-b-ge8388608-2 c = omega (arith, (low c).zeros)

pub overflow_shl-result : goal.overflow_shl-result
overflow_shl-result c = omega (arith, (low c).zeros)

pub returns-then-b-ge8388608 : goal.returns-then-b-ge8388608
returns-then-b-ge8388608 c = sym (digits-normal c.args.b c.if-b-ge8388608.true)

pub returns-else-b-ge8388608 : goal.returns-else-b-ge8388608
returns-else-b-ge8388608 c = mod-eq_of_lt (small _ (subst (λ (n : ℕ). n < 16777216) (digits_low _ c.if-b-ge8388608.false) (low_parts _ c.requires c.if-b-ge8388608.false).to)) ∙ sym (digits_low c.args.b c.if-b-ge8388608.false)
