-- `lawful_rate` meets its contract: one test after the other.
use Rattle.std.proofs.Common.{sym, ◌∙◌, true≢false}
use Rattle.settings.specs.Settings.{lawful_rate}
use Rattle.settings.proofs.lawful_rate.Goals as goal
use Rattle.settings.proofs.lawful_rate.Goals.{then-is_finite, else-is_finite}

pub returns-then-sample_rate : goal.returns-then-sample_rate
unfolding lawful_rate
returns-then-sample_rate c =
    elim c.if-is_finite.branch [
      | then-is_finite w ↦ rw (← c.is_finite.ensures, w.if-is_finite.true, ← w.value-is, c.if-sample_rate.true)
      | else-is_finite w ↦ absurd (true≢false (sym c.if-sample_rate.true ∙ w.value-is ∙ w.if-is_finite.false))
    ]

pub returns-else-sample_rate : goal.returns-else-sample_rate
unfolding lawful_rate
returns-else-sample_rate c =
    elim c.if-is_finite.branch [
      | then-is_finite w ↦ rw (← c.is_finite.ensures, w.if-is_finite.true, ← w.value-is, c.if-sample_rate.false)
      | else-is_finite w ↦ rw (← c.is_finite.ensures, w.value-is, w.if-is_finite.false)
    ]
