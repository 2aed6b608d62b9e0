-- `switch` meets its contract: one test.
use Rattle.std.proofs.Common.{sym, refl, ◌∙◌}
use Rattle.sequences.specs.Pick.{took, skipped}
use Rattle.engine_changes.specs.Changes.{switched}
use Rattle.engine_changes.proofs.switch.Goals as goal

pub returns-then-not-same_kind : goal.returns-then-not-same_kind
unfolding switched
returns-then-not-same_kind c = skipped _ _ _ _ (sym c.same_kind.ensures ∙ c.if-not-same_kind.true) c.retire_all.ensures

pub returns-else-not-same_kind : goal.returns-else-not-same_kind
unfolding switched
returns-else-not-same_kind c = took _ _ _ _ (sym c.same_kind.ensures ∙ c.if-not-same_kind.false) refl
