-- `wait_at_rest` meets its contract: the offset stays, the phase moves on.
use mathlib.Core.Path.{refl}
use Rattle.engine_samples.proofs.Waits.{underway_none, underway_more, underway_all, underway_due, clock-after}
use Rattle.std.proofs.Common.{sym, ◌∙◌, rules}
use Rattle.engine_samples.proofs.waiting.wait_at_rest.Goals as goal

pub loop-count-init : goal.loop-count-init
loop-count-init c = (c.requires, underway_none _ _ _ _)

pub loop-count-preserved : goal.loop-count-preserved
loop-count-preserved c =
    let inv = c.loop-count.invariant in (
      inv.0,
      underway_more _ _ _ _ _ _ _ inv.1 c.loop-count-test.true (sym c.nothing_due.ensures ∙ c.if-nothing_due.true)
          (clock-after _ _ _ _ _ _ _ refl c.pick-phase.ensures (sym inv.0)),
    )

pub returns-after-loop-count : goal.returns-after-loop-count
returns-after-loop-count c = underway_all _ _ _ _ _ _ c.loop-count.invariant.1 (search rules)

pub returns-else-nothing_due : goal.returns-else-nothing_due
returns-else-nothing_due c = underway_due _ _ _ _ _ _ c.loop-count.invariant.1 (sym c.nothing_due.ensures ∙ c.if-nothing_due.false)
