-- `sought_opportunity` meets its contract: one test.
use Rattle.std.proofs.Common.{sym, refl, ap, ◌∙◌}
use Rattle.sequences.specs.Pick.{took, skipped}
use lib.Ieee.{Float, le}
use Rattle.engine_changes.specs.Changes.{sought_opportunity}
use Rattle.engine_changes.proofs.sought_opportunity.Goals as goal

pub returns-then-timing_reference-reference : goal.returns-then-timing_reference-reference
unfolding sought_opportunity
returns-then-timing_reference-reference c = rw (← c.floor.ensures, ← c.to_u64-opportunity.ensures) (took _ _ _ _ (sym (ap (λ (t : Float). le t c.args.reference) c.timing_reference.ensures) ∙ c.if-timing_reference-reference.true) refl)

pub returns : goal.returns
unfolding sought_opportunity
returns c = rw (← c.floor.ensures, ← c.to_u64-opportunity.ensures) (skipped _ _ _ _ (sym (ap (λ (t : Float). le t c.args.reference) c.timing_reference.ensures) ∙ c.if-timing_reference-reference.false) refl)
