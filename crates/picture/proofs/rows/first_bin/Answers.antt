-- `first_bin` meets its contract: the row itself, or as many widths as it lies above bin 0.
use mathlib.Core.Path.{ap, ◌∙◌}
use Prim.Native.Nat.{ℕ, ◌+◌, ◌*◌, ◌%◌, ◌≤◌}
use native.Mathlib.Nat.{mul-le-mul}
use native.Mathlib.Omega.{arith}
use borrow.Author.Rules.{rules}
use borrow.Author.Tests.{le-ltb}
use Rattle.sequences.specs.Pick.{cases, passed}
use Rattle.picture.specs.Rows.{first_bin}
use Rattle.picture.proofs.rows.first_bin.Goals as goal

pub returns-then-row-lt8 : goal.returns-then-row-lt8
unfolding first_bin
returns-then-row-lt8 c = search (rules, cases)

pub overflow_mul-result : goal.overflow_mul-result
overflow_mul-result c =
    let few : 8 + c.args.row % 8 ≤ 15 = omega arith in
    let most = mul-le-mul few c.width.ensures.1 in
    omega (arith, most)

pub returns : goal.returns
unfolding first_bin
returns c = ap (λ (w : ℕ). (8 + c.args.row % 8) * w) c.width.ensures.0 ∙ passed _ _ _ (le-ltb _ _ c.if-row-lt8.false)
