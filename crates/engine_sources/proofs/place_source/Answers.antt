-- `place_source` meets its contract: one test.
use Rattle.std.proofs.Common.{refl, sym, ap, ◌∙◌}
use Rattle.sequences.specs.Pick.{took, skipped}
use Rattle.engine_sources.specs.Slots.{with_source, supplied_of}
use Rattle.state.specs.State.{with_particles}
use Rattle.engine_sources.proofs.place_source.Goals as goal

pub returns-then-pitched : goal.returns-then-pitched
unfolding supplied_of
returns-then-pitched c = took _ _ _ _ (sym c.pitched.ensures ∙ c.if-pitched.true) (ap (with_particles (with_source c.args.engine.now c.args.slot c.args.source)) c.retune-engine.ensures)

pub returns-else-pitched : goal.returns-else-pitched
unfolding supplied_of
returns-else-pitched c = skipped _ _ _ _ (sym c.pitched.ensures ∙ c.if-pitched.false) refl
