-- The acts of a call, performed one after the other, lead where its contract says.
use Rattle.std.specs.Prelude.{Ok, Err}
use Prim.Native.Nat.{ℕ, zero, suc, ◌^◌}
use mathlib.Core.Path.{◌≡◌, refl, ap, ◌∙◌}
use mathlib.Core.Bool.{Bool, true, false}
use mathlib.Core.List.{List, [], ◌∷◌, ◌++◌}
use Rattle.std.specs.Prelude.{Some}
use lib.Bits.{bit_xor}
use lib.Dec.{ltb}
use lib.Ieee.{Float}
use Rattle.sequences.specs.Pick.{pick, either}
use Rattle.sequences.specs.Times.{iterate}
use Rattle.refusals.specs.Numbers.{Answer}
use Rattle.settings.specs.declared.Config.{Config}
use Rattle.settings.specs.declared.Shape.{Shape}
use Rattle.settings.specs.declared.Shape.TheVariants.{Sprinkle, Cloud}
use Rattle.settings.specs.Settings.{checked_of}
use Rattle.settings.specs.Mending.{mended_of}
use Rattle.state.specs.declared.Done.{Done}
use Rattle.state.specs.declared.Engine.{Engine}
use Rattle.engine_triggers.specs.declared.Triggered.{Triggered}
use Rattle.state.specs.State.{with_config}
use Rattle.births.specs.Birth.{born_of}
use Rattle.engine_samples.specs.Sample.{tried_of, lane_of, lanes_of, cloud_of, by_shape_of, delivered_of, ticked_of, stepped_of}
use Rattle.engine.specs.Advance.{advanced_of}
use Rattle.engine_changes.specs.Changes.{retired_all, aligned, reweighed, switched, offset, restarted, configured_to, answered_by, configured_of, notes_of, sought_of}
use Rattle.engine_sources.specs.Slots.{supplied_of, set_source_of, retire_source_of, release_source_of}
use Rattle.engine_triggers.specs.Triggers.{reserved_of, is_permitted, outcome_of, triggered_by, triggered_of}
use Rattle.engine_laws.specs.Acts.{Act, act, perform, tried_acts, lane_acts, shape_acts, deliver_acts, sample_acts, advance_acts, restart_acts, weigh_acts, switch_acts, offset_acts, configure_acts, checked_acts, trigger_acts, Call, acts_of, applied}
use Rattle.engine_laws.specs.Acts as acts
use Rattle.frame.specs.declared.Framed.{Framed}
use Rattle.frame.specs.Frame.{accepted}
use Rattle.frame.specs.Call.{taken_of, refused_of, framed_of}

-- ---- lists of acts
pub perform_append : (e : Engine) (xs ys : List Act) → perform e (xs ++ ys) ≡ perform (perform e xs) ys
unfolding perform
perform_append e [] ys = refl
perform_append e (x ∷ xs) ys = perform_append (act e x) xs ys

-- the acts of each part lead where the part does
then : (e e' : Engine) (xs ys : List Act) → perform e xs ≡ e' → perform e (xs ++ ys) ≡ perform e' ys
then e e' xs ys h = perform_append e xs ys ∙ ap (λ (x : Engine). perform x ys) h

choice : (e : Engine) (t : Bool) (xs ys : List Act) (a b : Engine) → perform e xs ≡ a → perform e ys ≡ b → perform e (pick t xs ys) ≡ pick t a b
unfolding pick
choice e true xs ys a b p q = p
choice e false xs ys a b p q = q

-- the same for an answer that holds the engine
answer : {D : Type 0} (f : D → Engine) (e : Engine) (t : Bool) (xs ys : List Act) (a b : D) → perform e xs ≡ f a → perform e ys ≡ f b → perform e (pick t xs ys) ≡ f (pick t a b)
unfolding pick
answer f e true xs ys a b p q = p
answer f e false xs ys a b p q = q

-- ---- a sample
pub tried : (e : Engine) (lane : ℕ) (reference : Float) → perform e (tried_acts e lane reference) ≡ tried_of e lane reference
unfolding tried_acts tried_of perform act
tried e lane reference = choice e _ _ _ _ _ refl (choice _ _ _ _ _ _ (choice _ _ _ _ _ _ refl refl) refl)

pub lane_done : (e : Engine) (lane : ℕ) (reference : Float) → perform e (lane_acts e lane reference) ≡ lane_of e lane reference
unfolding lane_acts lane_of
lane_done e lane reference = then e (tried_of e lane reference) _ _ (tried e lane reference) ∙ tried (tried_of e lane reference) lane reference

shape-done : (shape : Shape) (e : Engine) (reference : Float) → perform e (shape_acts shape e reference) ≡ by_shape_of shape e reference
unfolding shape_acts by_shape_of lanes_of cloud_of perform act
shape-done Sprinkle e reference =
    let one = lane_of e 0 reference in
    then e one (lane_acts e 0 reference) _ (lane_done e 0 reference)
    ∙ then one (lane_of one 1 reference) (lane_acts one 1 reference) _ (lane_done one 1 reference)
    ∙ lane_done (lane_of one 1 reference) 2 reference
shape-done Cloud e reference = choice e _ _ _ _ _ (choice _ _ _ _ _ _ refl refl) refl

pub deliver_done : (e : Engine) → perform e (deliver_acts e) ≡ delivered_of e
unfolding deliver_acts delivered_of perform
deliver_done e = choice e _ _ _ _ _ (shape-done e.config.shape e _) refl

pub sample_done : (e : Engine) → perform e (sample_acts e) ≡ stepped_of e
unfolding sample_acts stepped_of ticked_of perform act
sample_done e = then e (delivered_of e) (deliver_acts e) _ (deliver_done e)

pub advance-done : (n : ℕ) (e : Engine) → perform e (advance_acts n e) ≡ iterate stepped_of n e
unfolding advance_acts iterate perform
advance-done zero e = refl
advance-done (suc n) e = then e (iterate stepped_of n e) (advance_acts n e) _ (advance-done n e) ∙ sample_done (iterate stepped_of n e)

-- ---- configure
restart-done : (e : Engine) (old : Config) → perform e (restart_acts e old) ≡ restarted e old
unfolding restart_acts restarted aligned perform act
restart-done e old = choice e _ _ _ _ _ refl (choice e _ _ _ _ _ refl refl)

pub weigh_done : (e : Engine) (c : Config) → perform e (weigh_acts e c) ≡ reweighed e c
unfolding weigh_acts reweighed perform act
weigh_done e c = choice e _ _ _ _ _ refl refl

pub switch-done : (e : Engine) (c : Config) → perform e (switch_acts e c) ≡ switched e c
unfolding switch_acts switched perform act
switch-done e c = choice e _ _ _ _ _ refl refl

pub offset-done : (e : Engine) (phase : Float) → perform e (offset_acts e phase) ≡ offset e phase
unfolding offset_acts offset perform act
offset-done e phase = choice e _ _ _ _ _ refl refl

configure-done : (e : Engine) (c : Config) → perform e (configure_acts e c) ≡ configured_to e c
unfolding configure_acts configured_to perform act
configure-done e c =
    let weighed = reweighed e c in
    let kind = switched weighed c in
    let moved = offset kind c.phase in
    then e weighed (weigh_acts e c) _ (weigh_done e c)
    ∙ then weighed kind (switch_acts weighed c) _ (switch-done weighed c)
    ∙ then kind moved (offset_acts kind c.phase) _ (offset-done kind c.phase)
    ∙ restart-done (with_config moved c) e.config

checked-done : (a : Answer) (e : Engine) (c : Config) → perform e (checked_acts a e c) ≡ (answered_by a e c).engine
unfolding perform
checked-done (Ok tt) e c = configure-done e (mended_of c)
checked-done (Err r) e c = refl

-- ---- triggers
abbrev after : Triggered → Engine
after t = t.engine

outcome_engine : (e out : Engine) → out ≡ (outcome_of e out).engine
outcome_engine e out = either (λ (t : Triggered). out ≡ t.engine) _ _ _ refl refl

trigger-done : (e : Engine) (slot index : ℕ) → perform e (trigger_acts e slot index) ≡ (triggered_by e slot index).engine
unfolding trigger_acts triggered_by perform act
trigger-done e slot index =
    answer after e (ltb slot 256) _ _ _ _ (answer after e (is_permitted e slot) _ _ _ _ (outcome_engine e (born_of e (bit_xor index (2 ^ 63)) (Some slot))) refl) refl

-- ---- every call
abbrev done : Done → Engine
done d = d.engine

abbrev framed : Framed → Engine
framed r = r.engine

pub calls_are_acts : (e : Engine) (c : Call) → perform e (acts_of e c) ≡ applied e c
unfolding acts_of applied perform act configured_of notes_of set_source_of supplied_of retire_source_of release_source_of triggered_of reserved_of sought_of retired_all aligned advanced_of framed_of taken_of refused_of
calls_are_acts e (acts.configure c) = checked-done (checked_of c) e c
calls_are_acts e (acts.note_input present) = refl
calls_are_acts e (acts.set_source slot s) = answer done e _ _ _ _ _ (choice e _ _ _ _ _ refl (choice _ _ _ _ _ _ refl refl)) refl
calls_are_acts e (acts.retire_source slot) = answer done e _ _ _ _ _ refl refl
calls_are_acts e (acts.release_source slot) = answer done e _ _ _ _ _ refl refl
calls_are_acts e (acts.trigger slot) = trigger-done (reserved_of e).engine slot _
calls_are_acts e acts.reserve = refl
calls_are_acts e (acts.reserved slot index) = trigger-done e slot index
calls_are_acts e (acts.seek cycles) = refl
calls_are_acts e (acts.advance n) = answer done e _ _ _ _ _ (advance-done n e) refl
calls_are_acts e (acts.take_frame bin_hz seconds) = answer framed e (accepted seconds) _ _ _ _ refl refl
