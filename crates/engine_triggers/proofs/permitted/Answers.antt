-- `permitted` meets its contract: one test after the other.
use Rattle.std.proofs.Common.{sym, ◌∙◌, true≢false}
use Rattle.sequences.specs.Pick.{took, skipped}
use Rattle.engine_triggers.proofs.permitted.Goals as goal
use Rattle.engine_triggers.proofs.permitted.Goals.{then-config, else-config}

pub returns-then-is_sprinkle : goal.returns-then-is_sprinkle
returns-then-is_sprinkle c =
    elim c.if-config.branch [
      | then-config w ↦ took _ _ _ _ w.if-config.true (took _ _ _ _ (sym w.is_sprinkle.ensures ∙ sym w.value-is ∙ c.if-is_sprinkle.true) c.eligible.ensures)
      | else-config w ↦ absurd (true≢false (sym c.if-is_sprinkle.true ∙ w.value-is ∙ w.if-config.false))
    ]

pub returns-else-is_sprinkle : goal.returns-else-is_sprinkle
returns-else-is_sprinkle c =
    elim c.if-config.branch [
      | then-config w ↦ took _ _ _ _ w.if-config.true (skipped _ _ _ _ (sym w.is_sprinkle.ensures ∙ sym w.value-is ∙ c.if-is_sprinkle.false) c.if-is_sprinkle.false)
      | else-config w ↦ skipped _ _ _ _ w.if-config.false (w.value-is ∙ w.if-config.false)
    ]
