-- `wait_gliding` meets its contract: a sample goes on with an offset that has the bits of `glide`, so it is `glide`'s.
use mathlib.Core.Path.{refl}
use lib.Ieee.{binary64}
use lib.Ieee.Fits.{add-fits}
use denote.Floats.{passes}
use Rattle.floats.proofs.SameBits.{same_bits}
use Rattle.engine_samples.proofs.Waits.{underway_none, underway_more, clock-after}
use Rattle.std.proofs.Common.{sym, ◌∙◌}
use Rattle.engine_samples.proofs.waiting.wait_gliding.Goals as goal

pub loop-count-init : goal.loop-count-init
loop-count-init c = underway_none _ _ _ _

pub loop-count-preserved : goal.loop-count-preserved
loop-count-preserved c =
    let glided = c.glide-later in
    let quick = same_bits binary64 _ _ (add-fits binary64 _ _) (passes _ glided.type_inv) (sym c.same_bits.ensures ∙ c.if-same_bits.true) ∙ glided.ensures in
    underway_more _ _ _ _ _ _ _ c.loop-count.invariant c.loop-count-test.true (sym c.nothing_due.ensures ∙ c.if-nothing_due.true)
    (clock-after _ _ _ _ _ _ _ refl c.pick-phase.ensures quick)

pub returns-after-loop-count : goal.returns-after-loop-count
returns-after-loop-count c = c.loop-count.invariant

pub returns-else-nothing_due : goal.returns-else-nothing_due
returns-else-nothing_due c = c.loop-count.invariant

pub returns-else-same_bits : goal.returns-else-same_bits
returns-else-same_bits c = c.loop-count.invariant

pub returns-then-same_bits-2 : goal.returns-then-same_bits-2
returns-then-same_bits-2 c = c.loop-count.invariant
