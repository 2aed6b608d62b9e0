-- `envelope` meets its contract: a case for each shape.
use mathlib.Core.Path.{sym, ap, ◌∙◌}
use lib.Ieee.{Float}
use Rattle.settings.specs.declared.Shape.{Shape}
use Rattle.settings.specs.declared.Shape.TheVariants.{Sprinkle, Cloud}
use Rattle.settings.specs.Envelope.{hop_floor_of, contour_by, contour_of}
use Rattle.settings.proofs.envelopes.envelope.Goals as goal

pub returns-in-Sprinkle : goal.returns-in-Sprinkle
unfolding contour_of contour_by
returns-in-Sprinkle c =
    let args = c.args in
    c.sprinkle.ensures
    ∙ ap (λ (floor : Float). contour_by Sprinkle args.config args.index floor) c.hop_floor-hop_floor.ensures
    ∙ sym (ap (λ (shape : Shape). contour_by shape args.config args.index (hop_floor_of args.config.hop_samples args.sample_rate)) c.in-Sprinkle.is)

pub returns-in-Cloud : goal.returns-in-Cloud
unfolding contour_of contour_by
returns-in-Cloud c =
    let args = c.args in
    c.cloud.ensures
    ∙ ap (λ (floor : Float). contour_by Cloud args.config args.index floor) c.hop_floor-hop_floor.ensures
    ∙ sym (ap (λ (shape : Shape). contour_by shape args.config args.index (hop_floor_of args.config.hop_samples args.sample_rate)) c.in-Cloud.is)
