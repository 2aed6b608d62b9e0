-- `cloud` meets its contract: whether it is due, and whether it sounds.
use Rattle.std.proofs.Common.{ℕ, sym, refl, ap, ◌∙◌, None}
use lib.Ieee.{Float, le}
use Rattle.sequences.specs.Pick.{took, skipped}
use Rattle.state.specs.State.{with_next}
use Rattle.births.specs.Birth.{born_of}
use Rattle.engine_samples.specs.Sample.{with_opportunity, cloud_of}
use Rattle.engine_samples.proofs.sample.cloud.Goals as goal

pub returns-then-engine : goal.returns-then-engine
unfolding cloud_of
returns-then-engine c =
    let e = c.args.engine.now in
    let born = c.bear.ensures ∙ ap (λ (k : ℕ). born_of (with_next e (with_opportunity e.next k)) e.next.opportunity None) c.opportunity_after-engine.ensures in
    took _ _ _ _ (sym (ap (λ (t : Float). le t c.args.reference) c.timing_reference.ensures) ∙ c.if-reference-timing_reference.true) (took _ _ _ _ c.if-engine.true born)

pub returns-else-engine : goal.returns-else-engine
unfolding cloud_of
returns-else-engine c =
    let e = c.args.engine.now in
    took _ _ _ _ (sym (ap (λ (t : Float). le t c.args.reference) c.timing_reference.ensures) ∙ c.if-reference-timing_reference.true) (skipped _ _ _ _ c.if-engine.false (ap (λ (k : ℕ). with_next e (with_opportunity e.next k)) c.opportunity_after-engine.ensures))

pub returns-else-reference-timing_reference : goal.returns-else-reference-timing_reference
unfolding cloud_of
returns-else-reference-timing_reference c = skipped _ _ _ _ (sym (ap (λ (t : Float). le t c.args.reference) c.timing_reference.ensures) ∙ c.if-reference-timing_reference.false) refl
