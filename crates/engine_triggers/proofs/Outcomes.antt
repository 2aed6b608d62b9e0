-- What a trigger's birth came to, told with the engine after it.
use Rattle.std.proofs.Common.{◌≡◌, Bool, true, false, eqb, refl, ap, ◌∙◌, Ok}
use Rattle.sequences.specs.Pick.{pick}
use Rattle.state.specs.declared.Engine.{Engine}
use Rattle.engine_triggers.specs.Triggers.{Fired, triggered_with, outcome_of}
use Rattle.engine_triggers.specs.declared.Outcome.TheVariants.{Born, Dropped}
use Rattle.engine_triggers.specs.Firing.{became_of}

by_test : (grew-not : Bool) (out : Engine) → triggered_with (pick grew-not (Ok Born) (Ok Dropped)) out ≡ pick grew-not (triggered_with (Ok Born) out) (triggered_with (Ok Dropped) out)
unfolding pick
by_test true out = refl
by_test false out = refl

became-told : (e out : Engine) → triggered_with (became_of e.tally.dropped out.tally.dropped) out ≡ outcome_of e out
became-told e out = by_test (eqb out.tally.dropped e.tally.dropped) out

pub told_as : (e out born : Engine) (o : Fired) → o ≡ became_of e.tally.dropped out.tally.dropped → out ≡ born → triggered_with o out ≡ outcome_of e born
told_as e out born o p q = ap (λ (x : Fired). triggered_with x out) p ∙ became-told e out ∙ ap (outcome_of e) q
