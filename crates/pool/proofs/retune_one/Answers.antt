-- `retune_one` meets its contract: two tests.
use mathlib.Core.Path.{refl, sym, ◌∙◌}
use Rattle.sequences.specs.Pick.{took, skipped}
use Rattle.pool.specs.Pool.{retune_one, retuned_of}
use Rattle.pool.proofs.retune_one.Goals as goal
use Rattle.pool.proofs.retune_one.Goals.{else-p-via-then-p+else-eq, else-p-via-else-p}

pub returns-then-eq : goal.returns-then-eq
unfolding retune_one retuned_of
returns-then-eq c = took _ _ _ _ c.if-p.true (took _ _ _ _ (sym c.eq.ensures ∙ c.if-eq.true) refl)

pub returns : goal.returns
unfolding retune_one retuned_of
returns c =
    elim c.else-p.branch [
      | else-p-via-then-p+else-eq w ↦ took _ _ _ _ w.if-p.true (skipped _ _ _ _ (sym w.eq.ensures ∙ w.if-eq.false) refl)
      | else-p-via-else-p w ↦ skipped _ _ _ _ w.if-p.false refl
    ]
