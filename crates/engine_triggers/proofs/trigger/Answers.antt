-- `trigger` meets its contract: one index is used, then the trigger.
use Rattle.engine_triggers.specs.Triggers.{triggered_of}
use Rattle.engine_triggers.proofs.trigger.Goals as goal

pub returns : goal.returns
unfolding triggered_of
returns c =
    let r = c.reserve_trigger-index.ensures in
    let t = c.trigger_reserved.ensures in
    record { outcome = rw (t.outcome, r.engine, r.index); engine = rw (t.engine, r.engine, r.index) }
