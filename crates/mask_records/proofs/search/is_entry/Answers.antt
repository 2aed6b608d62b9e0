-- `is_entry` meets its contract: the search by halves.
use Prim.Native.Nat.{◌/◌}
use mathlib.Core.Bool.{cond}
use mathlib.Core.List.{List}
use lib.Dec.{eqb, leb}
use lib.ListN.{get_or}
use Rattle.mask_records.proofs.Sought.{sought_all, sought_half, sought_end}
use native.Mathlib.Omega.{arith}
use Prim.Native.Nat.{ℕ, ◌+◌}
use mathlib.Core.Path.{ap, ◌∙◌}
use Rattle.mask_records.proofs.search.is_entry.Goals as goal

pub loop-size-init : goal.loop-size-init
loop-size-init c = sought_all _

pub loop-size-preserved : goal.loop-size-preserved
loop-size-preserved c = let l = c.loop-size in
    let a = c.args in
    sought_half _ _ _ _ l.invariant c.loop-size-test.true (c.step_if-base.ensures.0 ∙ ap (λ (gs : List ℕ). cond (leb a.e (get_or gs (l.base + l.size / 2) 0)) (l.size / 2) 0) c.requires)

pub returns : goal.returns
returns c = let l = c.loop-size in
    let a = c.args in
    ap (λ (gs : List ℕ). eqb (get_or gs l.base 0) a.e) c.requires ∙ sought_end a.e l.base l.size l.invariant (omega (arith, c.loop-size-test.false))
