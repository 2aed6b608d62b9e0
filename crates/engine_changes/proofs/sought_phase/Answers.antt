-- `sought_phase` meets its contract: one test.
use Rattle.std.proofs.Common.{sym, refl, ◌∙◌}
use Rattle.sequences.specs.Pick.{took, skipped}
use Rattle.engine_changes.specs.Changes.{sought_phase}
use Rattle.engine_changes.proofs.sought_phase.Goals as goal

pub returns-then-is_finite : goal.returns-then-is_finite
unfolding sought_phase
returns-then-is_finite c = took _ _ _ _ (sym c.is_finite.ensures ∙ c.if-is_finite.true) c.rem_euclid.ensures

pub returns : goal.returns
unfolding sought_phase
returns c = skipped _ _ _ _ (sym c.is_finite.ensures ∙ c.if-is_finite.false) refl
