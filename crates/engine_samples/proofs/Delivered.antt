-- A sample at which something may be due: what it delivers leaves the tempo as it was, and by that the clock moves on.
use Rattle.std.proofs.Common.{◌≡◌, true, false, sym, refl, ap, ◌∙◌}
use Rattle.sequences.specs.Pick.{took, skipped}
use Rattle.settings.specs.declared.Shape.{Shape}
use Rattle.settings.specs.declared.Shape.TheVariants.{Sprinkle, Cloud}
use Rattle.state.specs.declared.Engine.{Engine}
use Rattle.state.specs.State.{with_clock, reference_now}
use Rattle.engine_samples.specs.Sample.{lanes_of, cloud_of, by_shape_of, delivered_of, ticked_of, stepped_of}
use Rattle.engine_samples.proofs.Untouched.{delivered_keeps}
use Rattle.engine_samples.specs.declared.waiting.Tempo.{Tempo}
use Rattle.engine_samples.specs.Waiting.{clock_after, tempo_for}

module _ (e d : Engine) (t : Tempo) (same : t ≡ tempo_for e) where
  delivered : d ≡ delivered_of e → with_clock d (clock_after t d.clock) ≡ stepped_of e
  unfolding stepped_of ticked_of clock_after
  delivered p =
      let tempo : t ≡ tempo_for d = same ∙ sym (delivered_keeps tempo_for (λ e ps n t. refl) (λ e ss. refl) e) ∙ ap tempo_for (sym p) in
      ap (λ (u : Tempo). with_clock d (clock_after u d.clock)) tempo ∙ ap ticked_of p

  pub by-lanes : e.config.scheduled ≡ true → e.config.shape ≡ Sprinkle → d ≡ lanes_of e (reference_now e.clock) → with_clock d (clock_after t d.clock) ≡ stepped_of e
  unfolding delivered_of by_shape_of
  by-lanes s k p = delivered (took _ _ _ _ s (p ∙ sym (ap (λ (x : Shape). by_shape_of x e (reference_now e.clock)) k)))

  pub by-cloud : e.config.scheduled ≡ true → e.config.shape ≡ Cloud → d ≡ cloud_of e (reference_now e.clock) → with_clock d (clock_after t d.clock) ≡ stepped_of e
  unfolding delivered_of by_shape_of
  by-cloud s k p = delivered (took _ _ _ _ s (p ∙ sym (ap (λ (x : Shape). by_shape_of x e (reference_now e.clock)) k)))

  pub by-none : e.config.scheduled ≡ false → d ≡ e → with_clock d (clock_after t d.clock) ≡ stepped_of e
  unfolding delivered_of
  by-none s p = delivered (skipped _ _ _ _ s p)
