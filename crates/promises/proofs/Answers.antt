-- Demand 1 of the engine's calls, each with one refusal, and of the fields of a script, whose replies are these answers.
use Rattle.std.specs.Prelude.{Ok, Err}
use Prim.Native.Nat.{ℕ, ◌+◌, ◌^◌}
use mathlib.Core.Path.{◌≡◌, refl, sym, ap, ◌∙◌}
use mathlib.Core.Bool.{Bool, true, false, not, true≢false}
use mathlib.Core.List.{[], ◌∷◌}
use lib.Dec.{ltb, leb}
use lib.Ieee.{Float}
use Rattle.sequences.specs.Pick.{pick, either}
use Rattle.refusals.specs.Numbers.{Answer, number_of, answer_of}
use Rattle.refusals.specs.declared.Refusal.{Refusal}
use Rattle.refusals.specs.declared.Refusal.TheVariants.{Rate, Slot, Size, Elapsed}
use Rattle.settings.specs.declared.Config.{Config}
use Rattle.settings.specs.Settings.{checked_of, lawful_rate}
use Rattle.sources.specs.declared.Source.{Source}
use Rattle.state.specs.declared.Done.{Done}
use Rattle.state.specs.declared.Engine.{Engine}
use Rattle.state.specs.State.{taken, refused}
use Rattle.engine.specs.New.{new_engine_of}
use Rattle.engine.specs.Advance.{advanced_of}
use Rattle.engine_sources.specs.Slots.{set_source_of, retire_source_of, release_source_of}
use Rattle.engine_changes.specs.Changes.{answered_by, configured_of}
use Rattle.engine_triggers.specs.declared.Triggered.{Triggered}
use Rattle.engine_triggers.specs.Triggers.{Fired, outcome_number, triggered_with, outcome_of, reserved_of, triggered_by, triggered_of}
use Rattle.engine_triggers.specs.declared.Outcome.TheVariants.{Born, NotEligible, Dropped}
use Rattle.windows.specs.Opening.{empty_frame}
use Rattle.frame.specs.declared.Framed.{Framed}
use Rattle.frame.specs.Frame.{accepted}
use Rattle.frame.specs.Call.{taken_of, refused_of, framed_of}
use Rattle.script.specs.declared.fields.Field.{Field}
use Rattle.script.specs.declared.fields.Field.TheVariants as F
use Rattle.script_steps.specs.declared.Run.{Run}
use Rattle.script_steps.specs.Steps as steps
use Rattle.script_steps.specs.Steps.{source_of, step_of}
use Rattle.promises.specs.Tests.{first_of, bad_rate, bad_slot, past_limit, bad_seconds, tests_of, reply_number, Kept}

-- ---- calls with one refusal
done : (b : Bool) (r : Refusal) (x e : Engine) → answer_of (pick b (taken x) (refused r e)).answer ≡ first_of ((not b, number_of r) ∷ [])
unfolding first_of pick
done true r x e = refl
done false r x e = refl

pub done-leaves : (b : Bool) (r : Refusal) (x e : Engine) → Kept e (pick b (taken x) (refused r e))
unfolding pick
done-leaves true r x e n = absurd (n refl)
done-leaves false r x e n = refl

pub new_leaves : (b : Bool) (x y : Engine) → not b ≡ true → (pick b (taken x) (refused Rate y)).engine ≡ y
unfolding pick
new_leaves true x y n = absurd (true≢false (sym n))
new_leaves false x y n = refl

pub checked : (b : Bool) (e : Engine) (c : Config) → (answer_of (answered_by (pick b (Err Size) (Ok tt)) e c).answer ≡ first_of ((b, 3) ∷ [])) × Kept e (answered_by (pick b (Err Size) (Ok tt)) e c)
unfolding first_of pick
checked true e c = (refl, λ n. refl)
checked false e c = (refl, λ n. absurd (n refl))

-- ---- triggers: born, not eligible and dropped are 0
outcomes : (e out : Engine) → outcome_number (outcome_of e out).outcome ≡ 0
outcomes e out = either (λ (t : Triggered). outcome_number t.outcome ≡ 0) _ _ _ refl refl

fired-by : (b : Bool) (t : Triggered) (e : Engine) → outcome_number t.outcome ≡ 0 → outcome_number (pick b t (triggered_with (Err Slot) e)).outcome ≡ first_of ((not b, 2) ∷ [])
unfolding first_of pick
fired-by true t e h = h
fired-by false t e h = refl

pub fired : (e : Engine) (slot index : ℕ) → outcome_number (triggered_by e slot index).outcome ≡ first_of ((bad_slot slot, 2) ∷ [])
unfolding triggered_by
fired e slot index = fired-by (ltb slot 256) _ e (either (λ (t : Triggered). outcome_number t.outcome ≡ 0) _ _ _ (outcomes e _) refl)

missed : (b : Bool) (t : Triggered) (e : Engine) → not b ≡ true → (pick b t (triggered_with (Err Slot) e)).engine ≡ e
unfolding pick
missed true t e n = absurd (true≢false (sym n))
missed false t e n = refl

pub fired-leaves : (e : Engine) (slot index : ℕ) → bad_slot slot ≡ true → (triggered_by e slot index).engine ≡ e
unfolding triggered_by
fired-leaves e slot index n = missed (ltb slot 256) _ e n

-- ---- frame
framed : (b : Bool) (e : Engine) (x : Framed) → x.answer ≡ Ok tt → answer_of (pick b x (refused_of e)).answer ≡ first_of ((not b, 7) ∷ [])
unfolding first_of pick refused_of
framed true e x h = ap answer_of h
framed false e x h = refl

pub framed_leaves : (b : Bool) (e : Engine) (x : Framed) → not b ≡ true → ((pick b x (refused_of e)).engine ≡ e) × ((pick b x (refused_of e)).frame ≡ empty_frame)
unfolding pick refused_of
framed_leaves true e x n = absurd (true≢false (sym n))
framed_leaves false e x n = (refl, refl)

-- ---- by their names
pub new-answers : (rate : Float) → answer_of (new_engine_of rate).answer ≡ first_of ((bad_rate rate, 1) ∷ [])
unfolding new_engine_of lawful_rate
new-answers rate = done (lawful_rate rate) Rate _ _

pub configure-answers : (e : Engine) (c : Config) → answer_of (configured_of e c).answer ≡ first_of ((ltb 16384 c.hop_samples, 3) ∷ [])
unfolding configured_of checked_of
configure-answers e c = (checked (ltb 16384 c.hop_samples) e c).0

pub set_source-answers : (e : Engine) (slot : ℕ) (s : Source) → answer_of (set_source_of e slot s).answer ≡ first_of ((bad_slot slot, 2) ∷ [])
unfolding set_source_of
set_source-answers e slot s = done (ltb slot 256) Slot _ e

pub retire-source-answers : (e : Engine) (slot : ℕ) → answer_of (retire_source_of e slot).answer ≡ first_of ((bad_slot slot, 2) ∷ [])
unfolding retire_source_of
retire-source-answers e slot = done (ltb slot 256) Slot _ e

pub release-source-answers : (e : Engine) (slot : ℕ) → answer_of (release_source_of e slot).answer ≡ first_of ((bad_slot slot, 2) ∷ [])
unfolding release_source_of
release-source-answers e slot = done (ltb slot 256) Slot _ e

pub advance-answers : (e : Engine) (n : ℕ) → answer_of (advanced_of e n).answer ≡ first_of ((past_limit e n, 4) ∷ [])
unfolding advanced_of
advance-answers e n = done (leb (e.clock.sample + n) (2 ^ 40)) Elapsed _ e

pub trigger_answers : (e : Engine) (slot : ℕ) → outcome_number (triggered_of e slot).outcome ≡ first_of ((bad_slot slot, 2) ∷ [])
unfolding triggered_of
trigger_answers e slot = fired (reserved_of e).engine slot _

pub frame-answers : (e : Engine) (bin_hz seconds : Float) → answer_of (framed_of e bin_hz seconds).answer ≡ first_of ((bad_seconds seconds, 7) ∷ [])
unfolding framed_of taken_of accepted
frame-answers e bin_hz seconds = framed (accepted seconds) e (taken_of e bin_hz seconds) refl

-- ---- a field's reply has the number of its call's answer
done_reply : (before : Run) (d : Done) → reply_number (steps.done_of before d).reply ≡ answer_of d.answer
done_reply before d = go d.answer
  where
    go : (a : Answer) → reply_number (steps.answered_of before d.engine a).reply ≡ answer_of a
    go (Ok tt) = refl
    go (Err r) = refl

fired_reply : (before : Run) (t : Triggered) → reply_number (steps.fired_of before t).reply ≡ outcome_number t.outcome
fired_reply before t = go t.outcome
  where
    go : (o : Fired) → reply_number (steps.outcome_step before t.engine o).reply ≡ outcome_number o
    go (Ok Born) = refl
    go (Ok NotEligible) = refl
    go (Ok Dropped) = refl
    go (Err r) = refl

framed_reply : (before : Run) (f : Framed) → reply_number (steps.framed_step before f).reply ≡ answer_of f.answer
framed_reply before f = go f.answer
  where
    go : (a : Answer) → reply_number (steps.frame_step_of before f.engine f.frame a).reply ≡ answer_of a
    go (Ok tt) = refl
    go (Err r) = refl

module _ (before : Run) where
  abbrev e : Engine
  e = before.engine

  pub step-answers : (f : Field) → reply_number (step_of before f).reply ≡ first_of (tests_of e f)
  unfolding step_of first_of
  step-answers (F.Rate x) = done_reply before (new_engine_of x) ∙ new-answers x
  step-answers (F.Configure c) = done_reply before (configured_of e c) ∙ configure-answers e c
  step-answers (F.Source s f g b) = done_reply before (set_source_of e s (source_of f g b)) ∙ set_source-answers e s (source_of f g b)
  step-answers (F.Retire s) = done_reply before (retire_source_of e s) ∙ retire-source-answers e s
  step-answers (F.Release s) = done_reply before (release_source_of e s) ∙ release-source-answers e s
  step-answers (F.Trigger s) = fired_reply before (triggered_of e s) ∙ trigger_answers e s
  step-answers (F.Seek x) = refl
  step-answers (F.Advance n) = done_reply before (advanced_of e n) ∙ advance-answers e n
  step-answers (F.Frame b x) = framed_reply before (framed_of e b x) ∙ frame-answers e b x
  step-answers (F.NoteInput b) = refl
  step-answers F.Reset = refl
  step-answers F.Reserve = refl
  step-answers (F.ReservedTrigger s i) = fired_reply before (triggered_by e s i) ∙ fired e s i
