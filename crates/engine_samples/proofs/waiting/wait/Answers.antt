-- `wait` meets its contract: a sample by `glide` and those after it by `wait_gliding`, over and over, and the rest by `wait_at_rest`.
use mathlib.Core.Path.{refl}
use Rattle.std.proofs.Common.{sym, ◌∙◌, arith, rules}
use lib.Ieee.{binary64}
use denote.Floats.{passes}
use Rattle.floats.proofs.SameBits.{same_bits}
use Rattle.engine_samples.proofs.Waits.{waited_few, underway_none, underway_more, underway_join, underway_rest, underway_all, underway_due, clock-after}
use Rattle.engine_samples.proofs.waiting.wait.Goals as goal

pub loop-count-init : goal.loop-count-init
loop-count-init c = (passes _ c.well_formed.0.1.1.1.1.0.1, underway_none _ _ _ _)

pub wait_at_rest-more-requires : goal.wait_at_rest-more-requires
wait_at_rest-more-requires c =
    let glided = c.glide-later in
    sym glided.ensures ∙ same_bits binary64 _ _ (passes _ glided.type_inv) c.loop-count.invariant.0 (sym c.same_bits.ensures ∙ c.if-same_bits.true)

pub overflow_add-result : goal.overflow_add-result
overflow_add-result c =
    let few = waited_few _ _ _ _ _ c.wait_at_rest-more.ensures in
    omega arith

pub returns-then-same_bits : goal.returns-then-same_bits
returns-then-same_bits c = underway_rest _ _ _ _ _ _ _ c.loop-count.invariant.1 c.wait_at_rest-more.ensures

pub overflow_add-count-in-loop-count : goal.overflow_add-count-in-loop-count
overflow_add-count-in-loop-count c = let few = c.wait_gliding-more.ensures.few in omega arith

pub loop-count-smaller : goal.loop-count-smaller
loop-count-smaller c = let few = c.wait_gliding-more.ensures.few in omega arith

pub loop-count-preserved : goal.loop-count-preserved
loop-count-preserved c =
    let glided = c.glide-later in
    let one = underway_more _ _ _ _ _ _ _ c.loop-count.invariant.1 c.loop-count-test.true (sym c.nothing_due.ensures ∙ c.if-nothing_due.true) (clock-after _ _ _ _ _ _ _ refl c.pick.ensures glided.ensures) in
    (passes _ c.wait_gliding-more.type_inv.1.1.0.1.1.1.1.0.1, underway_join _ _ _ _ _ _ _ _ one c.wait_gliding-more.ensures)

pub returns-after-loop-count : goal.returns-after-loop-count
returns-after-loop-count c = underway_all _ _ _ _ _ _ c.loop-count.invariant.1 (search rules)

pub returns-else-nothing_due : goal.returns-else-nothing_due
returns-else-nothing_due c = underway_due _ _ _ _ _ _ c.loop-count.invariant.1 (sym c.nothing_due.ensures ∙ c.if-nothing_due.false)
