-- `trigger_reserved` meets its contract: the slot, whether it is permitted, and what became of the birth.
use Rattle.std.proofs.Common.{◌≡◌, Ok, Err, sym, refl, ap, ◌∙◌, le-ltb, lt-ltb}
use Rattle.sequences.specs.Pick.{took, skipped}
use Rattle.refusals.specs.declared.Refusal.TheVariants.{Slot}
use Rattle.engine_triggers.specs.declared.Outcome.TheVariants.{NotEligible}
use Rattle.engine_triggers.specs.declared.Triggered.{Triggered}
use Rattle.engine_triggers.specs.Triggers.{is_permitted, triggered_with, triggered_by}
use Rattle.engine_triggers.proofs.Outcomes.{told_as}
use Rattle.engine_triggers.proofs.trigger_reserved.Goals as goal

pub returns-then-slot-ge-MAX_SOURCES : goal.returns-then-slot-ge-MAX_SOURCES
unfolding triggered_by
returns-then-slot-ge-MAX_SOURCES c =
    let e = c.args.engine.now in
    let t : triggered_with (Err Slot) e ≡ triggered_by e c.args.slot c.args.index = skipped _ _ _ _ (le-ltb _ _ c.if-slot-ge-MAX_SOURCES.true) refl in
    record { outcome = ap (λ (x : Triggered). x.outcome) t; engine = ap (λ (x : Triggered). x.engine) t }

pub returns-then-not-permitted : goal.returns-then-not-permitted
unfolding triggered_by is_permitted
returns-then-not-permitted c =
    let e = c.args.engine.now in
    let t : triggered_with (Ok NotEligible) e ≡ triggered_by e c.args.slot c.args.index =
    took _ _ _ _ (lt-ltb _ _ c.if-slot-ge-MAX_SOURCES.false) (skipped _ _ _ _ (sym c.permitted.ensures ∙ c.if-not-permitted.true) refl) in
    record { outcome = ap (λ (x : Triggered). x.outcome) t; engine = ap (λ (x : Triggered). x.engine) t }

pub returns : goal.returns
unfolding triggered_by is_permitted
returns c =
    let e = c.args.engine.now in
    let t : triggered_with (Ok c.became.result) c.bear.new.engine ≡ triggered_by e c.args.slot c.args.index =
    took _ _ _ _ (lt-ltb _ _ c.if-slot-ge-MAX_SOURCES.false) (took _ _ _ _ (sym c.permitted.ensures ∙ c.if-not-permitted.false)
    (told_as e c.bear.new.engine _ _ c.became.ensures c.bear.ensures)) in
    record { outcome = ap (λ (x : Triggered). x.outcome) t; engine = ap (λ (x : Triggered). x.engine) t }
