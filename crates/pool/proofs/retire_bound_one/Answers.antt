-- `retire_bound_one` meets its contract: two tests.
use mathlib.Core.Path.{refl, sym, ◌∙◌}
use Rattle.sequences.specs.Pick.{took, skipped}
use Rattle.pool.specs.Pool.{retire_bound_one}
use Rattle.pool.proofs.retire_bound_one.Goals as goal
use Rattle.pool.proofs.retire_bound_one.Goals.{else-p-via-then-p+else-eq, else-p-via-else-p}

pub returns-then-eq : goal.returns-then-eq
unfolding retire_bound_one
returns-then-eq c = took _ _ _ _ c.if-p.true (took _ _ _ _ (sym c.eq.ensures ∙ c.if-eq.true) c.marked.ensures)

pub returns : goal.returns
unfolding retire_bound_one
returns c =
    elim c.else-p.branch [
      | else-p-via-then-p+else-eq w ↦ took _ _ _ _ w.if-p.true (skipped _ _ _ _ (sym w.eq.ensures ∙ w.if-eq.false) refl)
      | else-p-via-else-p w ↦ skipped _ _ _ _ w.if-p.false refl
    ]
