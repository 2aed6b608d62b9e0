-- `eligible` meets its contract: one test after the other.
use mathlib.Core.Bool.{true≢false}
use mathlib.Core.Path.{sym, ◌∙◌}
use Rattle.sequences.specs.Pick.{took, skipped}
use Rattle.sources.specs.Sources.{is_eligible}
use Rattle.sources.proofs.eligible.Goals as goal
use Rattle.sources.proofs.eligible.Goals.{then-s, else-s}

pub returns-then-pitched : goal.returns-then-pitched
unfolding is_eligible
returns-then-pitched c =
    elim c.if-s.branch [
      | then-s w ↦ took _ _ _ _ w.if-s.true (took _ _ _ _ (sym w.pitched.ensures ∙ sym w.value-is ∙ c.if-pitched.true) c.pitched-then-pitched.ensures)
      | else-s w ↦ absurd (true≢false (sym c.if-pitched.true ∙ w.value-is ∙ w.if-s.false))
    ]

pub returns-else-pitched : goal.returns-else-pitched
unfolding is_eligible
returns-else-pitched c =
    elim c.if-s.branch [
      | then-s w ↦ took _ _ _ _ w.if-s.true (skipped _ _ _ _ (sym w.pitched.ensures ∙ sym w.value-is ∙ c.if-pitched.false) c.if-pitched.false)
      | else-s w ↦ skipped _ _ _ _ w.if-s.false (w.value-is ∙ w.if-s.false)
    ]
