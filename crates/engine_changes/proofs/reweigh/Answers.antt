-- `reweigh` meets its contract: one test.
use Rattle.std.proofs.Common.{refl, ap}
use Rattle.std.proofs.lemmas.Bool.{not-true, not-false}
use lib.Ieee.{ne}
use Rattle.sequences.specs.Pick.{took, skipped}
use Rattle.engine_changes.specs.Changes.{reweighed}
use Rattle.state.specs.State.{with_weights}
use Rattle.engine_changes.proofs.reweigh.Goals as goal

pub returns-then-config-engine : goal.returns-then-config-engine
unfolding reweighed ne
returns-then-config-engine c = skipped _ _ _ _ (not-true _ c.if-config-engine.true) (ap (with_weights c.args.engine.now) c.weights-engine.ensures)

pub returns-else-config-engine : goal.returns-else-config-engine
unfolding reweighed ne
returns-else-config-engine c = took _ _ _ _ (not-false _ c.if-config-engine.false) refl
