-- `restart` meets its contract: one test after the other.
use Rattle.std.proofs.Common.{sym, refl, ap, ◌∙◌}
use Rattle.std.proofs.lemmas.Bool.{not-true, not-false}
use Rattle.sequences.specs.Pick.{took, skipped}
use Rattle.engine_changes.specs.Changes.{restarted}
use Rattle.sources.proofs.Flags.{flags}
use Rattle.state.specs.State.{with_streams}
use Rattle.engine_changes.proofs.restart.Goals as goal

pub returns-then-enters_sprinkle : goal.returns-then-enters_sprinkle
unfolding restarted
returns-then-enters_sprinkle c = took _ _ _ _ (sym c.enters_sprinkle.ensures ∙ c.if-enters_sprinkle.true) c.align_streams.ensures

pub returns-then-before-after : goal.returns-then-before-after
unfolding restarted
returns-then-before-after c = skipped _ _ _ _ (sym c.enters_sprinkle.ensures ∙ c.if-enters_sprinkle.false) (skipped _ _ _ _ (flags _ _ ∙ not-true _ c.if-before-after.true) (ap (with_streams c.args.engine.now) c.prepare_streams-engine.ensures))

pub returns-else-before-after : goal.returns-else-before-after
unfolding restarted
returns-else-before-after c = skipped _ _ _ _ (sym c.enters_sprinkle.ensures ∙ c.if-enters_sprinkle.false) (took _ _ _ _ (flags _ _ ∙ not-false _ c.if-before-after.false) refl)
