-- The line of an accepted frame tells of the engine after its turn.
use Rattle.std.specs.Prelude.{Some, None, Ok, Err}
use Prim.Native.Nat.{ℕ, zero, suc, ◌+◌}
use mathlib.Core.Path.{◌≡◌, refl, subst}
use mathlib.Core.Bool.{Bool, true, false, cond}
use mathlib.Core.List.{List, [], ◌∷◌, ◌++◌}
use lib.Dec.{eqb}
use lib.ListN.{length, drop}
use lib.Ieee.{Float}
use Rattle.sequences.specs.Every.{Every, every_there}
use Rattle.refusals.specs.Numbers.{Answer}
use Rattle.state.specs.declared.Done.{Done}
use Rattle.state.specs.declared.Engine.{Engine}
use Rattle.engine_triggers.specs.Triggers.{Fired, triggered_of, triggered_by}
use Rattle.engine_triggers.specs.declared.Outcome.TheVariants.{Born, NotEligible, Dropped}
use Rattle.engine_triggers.specs.declared.Triggered.{Triggered}
use Rattle.engine.specs.New.{new_engine_of}
use Rattle.engine_changes.specs.Changes.{configured_of}
use Rattle.engine_sources.specs.Slots.{set_source_of, retire_source_of, release_source_of}
use Rattle.engine.specs.Advance.{advanced_of}
use Rattle.frame.specs.declared.Framed.{Framed}
use Rattle.frame.specs.Call.{framed_of as take_frame_of}
use Rattle.script.specs.declared.fields.Field.{Field}
use Rattle.script.specs.declared.fields.Field.TheVariants as F
use Rattle.script.specs.Field.{Read, read_of}
use Rattle.script_steps.specs.declared.Run.{Run}
use Rattle.script_steps.specs.Replies.{Reply}
use Rattle.script_steps.specs.declared.Stepped.{Stepped}
use Rattle.script_steps.specs.Steps.{fresh, answered_of, done_of, outcome_step, fired_of, frame_step_of, framed_step, source_of, step_of}
use Rattle.script_steps.specs.Values.{values_of}
use Rattle.listing.specs.declared.lines.Line.{Line}
use Rattle.listing.specs.declared.lines.Line.TheVariants as L
use Rattle.listing.specs.declared.turns.Turn.{Turn}
use Rattle.listing.specs.Turns.{refusal_of, replied_of, after_of, turn_of, turns_from, turns_of}

-- a line that says the values of the engine, with some activity, if it says any
abbrev pub Tells : Engine → Line → Type 0
Tells e L.Nothing = Unit {0}
Tells e (L.Frame n v) = (activity : Float) × (v ≡ values_of e activity)
Tells e (L.Refused n r) = Unit {0}
Tells e (L.Bad n r p) = Unit {0}
Tells e (L.End n) = Unit {0}

-- ---- a field
abbrev Says : Engine → Reply → Type 0
Says e (Ok None) = Unit {0}
Says e (Err r) = Unit {0}
Says e (Ok (Some v)) = (activity : Float) × (v ≡ values_of e activity)

abbrev StepSays : Stepped → Type 0
StepSays s = Says s.run.engine s.reply

done-says : (before : Run) (d : Done) → StepSays (done_of before d)
done-says before d = go d.answer
  where
    go : (a : Answer) → StepSays (answered_of before d.engine a)
    go (Ok tt) = tt
    go (Err r) = tt

fired-says : (before : Run) (t : Triggered) → StepSays (fired_of before t)
fired-says before t = go t.outcome
  where
    go : (o : Fired) → StepSays (outcome_step before t.engine o)
    go (Ok Born) = tt
    go (Ok NotEligible) = tt
    go (Ok Dropped) = tt
    go (Err r) = tt

framed_says : (before : Run) (f : Framed) → StepSays (framed_step before f)
framed_says before f = go f.answer
  where
    go : (a : Answer) → StepSays (frame_step_of before f.engine f.frame a)
    go (Ok tt) = (f.frame.activity, refl)
    go (Err r) = tt

step-says : (before : Run) (f : Field) → StepSays (step_of before f)
unfolding step_of
step-says before (F.Rate x) = done-says before (new_engine_of x)
step-says before (F.Configure c) = done-says before (configured_of before.engine c)
step-says before (F.Source s f g b) = done-says before (set_source_of before.engine s (source_of f g b))
step-says before (F.Retire s) = done-says before (retire_source_of before.engine s)
step-says before (F.Release s) = done-says before (release_source_of before.engine s)
step-says before (F.Trigger s) = fired-says before (triggered_of before.engine s)
step-says before (F.Seek x) = tt
step-says before (F.Advance n) = done-says before (advanced_of before.engine n)
step-says before (F.Frame b x) = framed_says before (take_frame_of before.engine b x)
step-says before (F.NoteInput b) = tt
step-says before F.Reset = tt
step-says before F.Reserve = tt
step-says before (F.ReservedTrigger s i) = fired-says before (triggered_by before.engine s i)

-- ---- a turn
abbrev TurnTells : Turn → Type 0
TurnTells t = Tells t.run.engine t.line

replied_tells : (n at k : ℕ) (r : Run) (a : Reply) → Says r.engine a → TurnTells (replied_of n at k r a)
replied_tells n at k r (Ok None) s = tt
replied_tells n at k r (Err c) s = go (eqb n 1)
  where
    go : (first : Bool) → TurnTells (refusal_of first r n at k c)
    go true = tt
    go false = tt
replied_tells n at k r (Ok (Some v)) s = s

after_tells : (before : Run) (n at : ℕ) (s : List ℕ) (r : Read) → TurnTells (after_of before n at s r)
after_tells before n at s (Ok (Some (f, k))) = replied_tells n at k (step_of before f).run (step_of before f).reply (step-says before f)
after_tells before n at s (Err r) = tt
after_tells before n at s (Ok None) = tt

turn_tells : (before : Run) (n at : ℕ) (s : List ℕ) → TurnTells (turn_of before n at s)
unfolding turn_of
turn_tells before n at s = after_tells before n at s (read_of (drop at s) (eqb n 1))

-- ---- a script
turns_tell : (f : ℕ) (before : Run) (n at : ℕ) (s : List ℕ) → Every TurnTells (turns_from f before n at s)
unfolding turns_from
turns_tell zero before n at s = tt
turns_tell (suc f) before n at s =
    let t = turn_of before n at s in
    (turn_tells before n at s, go (eqb t.taken 0) _ (turns_tell f t.run (n + 1) (at + t.taken) s))
  where
    go : (b : Bool) (ts : List Turn) → Every TurnTells ts → Every TurnTells (cond b [] ts)
    go true ts a = tt
    go false ts a = a

pub told : (s : List ℕ) (before after : List Turn) (t : Turn) → turns_of s ≡ before ++ t ∷ after → Tells t.run.engine t.line
told s before after t h = every_there TurnTells before after t (subst (Every TurnTells) h (turns_tell (length s + 1) fresh 1 0 s))
