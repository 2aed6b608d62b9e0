-- `rk_probe_active_counts` meets its contract: the engine and the sum go on by one event a turn.
use Rattle.std.proofs.Common.{refl, ap, ◌∙◌, rules}
use Rattle.sequences.specs.Times.{iterate-none, iterate-more}
use Rattle.oracle_probe.specs.Counts.{fired, asked_of}
use Rattle.oracle_probe.proofs.Asked.{with_answer, without}
use Rattle.oracle_probe.proofs.counts.rk_probe_active_counts.Goals as goal
use Rattle.oracle_probe.proofs.counts.rk_probe_active_counts.Goals.{then-asked, else-asked}

pub loop-init : goal.loop-init
unfolding asked_of
loop-init c = (c.sounding_engine-engine.ensures ∙ iterate-none _ _, refl, search rules)

pub loop-preserved : goal.loop-preserved
loop-preserved c =
    let inv = c.loop.invariant in
    let fires = iterate-more fired _ _ _ _ inv.0 c.trigger.ensures.engine in
    elim c.if-asked.branch [
      | then-asked w ↦ (fires, with_answer _ _ _ inv.1 _ _ _ w.if-asked.true fires w.active_count.ensures (w.sum-is), search rules)
      | else-asked w ↦ (fires, w.sum-is ∙ without _ _ _ inv.1 w.if-asked.false, search rules)
    ]

pub returns : goal.returns
returns c =
    let inv = c.loop.invariant in
    inv.1 ∙ ap (asked_of _) (search rules)
