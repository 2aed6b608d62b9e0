-- `sampled` meets its contract: one move, or two.
use Rattle.std.proofs.Common.{◌≡◌, ℕ, Bool, true, false, sym, ap, ◌∙◌}
use lib.Ieee.{Float, lt}
use Rattle.sequences.specs.Pick.{took, skipped}
use Rattle.timing.specs.declared.SprinkleStream.{SprinkleStream}
use Rattle.timing.specs.Streams.{moved_of}
use Rattle.oracle_probe.specs.Numbers.{sampled_of}
use Rattle.oracle_probe.proofs.sampled.Goals as goal

module _ (index lane : ℕ) (reference : Float) (sync : Bool) (s : SprinkleStream) (e : s ≡ moved_of index lane reference sync) where
  stays : lt reference s.next ≡ true → s ≡ sampled_of index lane reference sync
  unfolding sampled_of
  stays h = took _ _ _ s (ap (λ (u : SprinkleStream). lt reference u.next) (sym e) ∙ h) e

  goes_on : (t : SprinkleStream) → lt reference s.next ≡ false → t ≡ moved_of s.index lane reference sync → t ≡ sampled_of index lane reference sync
  unfolding sampled_of
  goes_on t h g = skipped _ _ _ t (ap (λ (u : SprinkleStream). lt reference u.next) (sym e) ∙ h) (g ∙ ap (λ (u : SprinkleStream). moved_of u.index lane reference sync) e)

pub returns-then-reference-once : goal.returns-then-reference-once
returns-then-reference-once c = let a = c.args in stays a.index a.lane a.reference a.sync c.move_on-once.result c.move_on-once.ensures c.if-reference-once.true

pub returns : goal.returns
returns c = let a = c.args in goes_on a.index a.lane a.reference a.sync c.move_on-once.result c.move_on-once.ensures c.move_on.result c.if-reference-once.false c.move_on.ensures
