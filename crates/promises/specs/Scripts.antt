-- A SCRIPT IS A RUN, as it is promised: its fields other than the rate and the resets are calls, so that demand 3 holds of every script between its resets.
use Rattle.std.specs.Prelude.{ℕ, suc, ◌≡◌, List, [], ◌∷◌, ◌++◌, map, length, take, Float}
use Rattle.state.specs.declared.Engine.{Engine}
use Rattle.engine.specs.New.{new_engine_of, reset_of}
use Rattle.script.specs.declared.fields.Field.{Field}
use Rattle.script.specs.declared.fields.Field.TheVariants as F
use Rattle.script.specs.Reading.{onward}
use Rattle.script_writer_laws.specs.Events.{events}
use Rattle.script_steps.specs.declared.Run.{Run}
use Rattle.script_steps.specs.Steps.{fresh, source_of, step_of}
use Rattle.listing.specs.declared.turns.Turn.{Turn}
use Rattle.listing.specs.Turns.{turns_of}
use Rattle.engine_laws.specs.Acts.{Call, configure, note_input, set_source, retire_source, release_source, trigger, reserve, reserved, seek, advance, take_frame, applied}
use Rattle.promises.specs.Life.{Held}
use Rattle.promises.specs.Runs.{run, history, AllTyped, Begins}
use Rattle.promises.specs.Demand3.{AtMoment, NoneDue, OverCalls}

-- ---- fields
-- what a field is to the engine: the making of a new one, a reset, or a call
pub data Move : Type 0 where
  make : Float → Move
  restart : Move
  call : Call → Move

abbrev pub move_of : Field → Move
move_of (F.Rate x) = make x
move_of (F.Configure c) = call (configure c)
move_of (F.Source s f g b) = call (set_source s (source_of f g b))
move_of (F.Retire s) = call (retire_source s)
move_of (F.Release s) = call (release_source s)
move_of (F.Trigger s) = call (trigger s)
move_of (F.Seek x) = call (seek x)
move_of (F.Advance n) = call (advance n)
move_of (F.Frame b x) = call (take_frame b x)
move_of (F.NoteInput b) = call (note_input b)
move_of F.Reset = restart
move_of F.Reserve = call reserve
move_of (F.ReservedTrigger s i) = call (reserved s i)

-- ---- the run that fields come to: where it began, and its calls since
pub record Course : Type 0 where
  pub start : Engine
  pub calls : List Call

abbrev pub reached : Course → Engine
reached k = run k.start k.calls

abbrev pub begun_at : Engine → Course
begun_at e = record { start = e; calls = [] }

-- the rate and a reset begin one; a call goes on with it
abbrev pub moved_by : Course → Move → Course
moved_by k (make x) = begun_at (new_engine_of x).engine
moved_by k restart = begun_at (reset_of (reached k))
moved_by k (call c) = record { start = k.start; calls = k.calls ++ c ∷ [] }

unfoldable pub course_from : Course → List Field → Course
course_from k [] = k
course_from k (f ∷ fs) = course_from (moved_by k (move_of f)) fs

-- the fields of a script, as the reader takes them one behind the other
abbrev pub fields_of : List ℕ → List Field
fields_of s = events (onward 1 0 s)

-- of the first n of them
abbrev pub course_of : List ℕ → ℕ → Course
course_of s n = course_from (begun_at fresh.engine) (take n (fields_of s))

pub record Scripts : Type 0 where
  -- a field that is a call does to the engine what the call's contract says; the rate makes a new one, and a reset begins anew
  pub field_is_call : (before : Run) (f : Field) (c : Call) → move_of f ≡ call c → (step_of before f).run.engine ≡ applied before.engine c
  pub rate_makes : (before : Run) (x : Float) → (step_of before (F.Rate x)).run.engine ≡ (new_engine_of x).engine
  pub reset_begins : (before : Run) → (step_of before F.Reset).run.engine ≡ reset_of before.engine
  -- so the engine after turn n of a script is that of the run which its first n fields come to
  pub turn_is_run : (s : List ℕ) (before after : List Turn) (t : Turn) → turns_of s ≡ before ++ t ∷ after → t.run.engine ≡ reached (course_of s (suc (length before)))
  -- it begins where demand 3's runs do, and its calls are typed
  pub begins : (s : List ℕ) (n : ℕ) → Begins (course_of s n).start
  pub typed : (s : List ℕ) (n : ℕ) → AllTyped (course_of s n).calls
  -- over fields with no rate and no reset among them it goes on, call by call
  pub goes_on : (s : List ℕ) (before between after : List Field) → fields_of s ≡ before ++ between ++ after → (cs : List Call) → map move_of between ≡ map call cs
      → reached (course_of s (length (before ++ between))) ≡ run (reached (course_of s (length before))) cs
  -- so demand 3 holds after every turn: of the acts since the last reset, and over any calls up to the next
  pub demand3 : (s : List ℕ) (before after : List Turn) (t : Turn) → turns_of s ≡ before ++ t ∷ after
      → let k = course_of s (suc (length before)) in
      AtMoment k.start (history k.start k.calls) t.run.engine × ((i : ℕ) → Held t.run.engine i → OverCalls t.run.engine i)
  -- who holds a place after some fields holds it after more, with no reset among these, unless one of them is an accepted frame that finds it due
  pub holds : (s : List ℕ) (before between after : List Field) → fields_of s ≡ before ++ between ++ after → (cs : List Call) → map move_of between ≡ map call cs
      → let e = reached (course_of s (length before)) in
      (i : ℕ) → Held e i → NoneDue e cs i → Held (reached (course_of s (length (before ++ between)))) i
