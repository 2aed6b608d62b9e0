-- What the oracle is handed of a whole script. Definitions only.
use Rattle.std.specs.Prelude.{ℕ, zero, suc, ◌+◌, ◌*◌, Bool, cond, ◌&&◌, List, [], ◌∷◌, ◌++◌, eqb, leb, length, drop, Some, None, Ok, Err}
use Rattle.sequences.specs.Pick.{pick}
use Rattle.text.specs.Put.{splice, joined}
use Rattle.script.specs.declared.fields.Field.{Field}
use Rattle.script.specs.declared.fields.Field.TheVariants as F
use Rattle.script.specs.Field.{Read, read_of}
use Rattle.engine_triggers.specs.Triggers.{Fired, triggered_of, triggered_by}
use Rattle.engine_triggers.specs.declared.Outcome.TheVariants.{Born, NotEligible, Dropped}
use Rattle.script_steps.specs.declared.Run.{Run}
use Rattle.script_steps.specs.Steps.{fresh}
use Rattle.listing.specs.Turns.{turn_of}
use Rattle.listing.specs.Listed.{Listed}
use Rattle.oracle_late.specs.Late.{run_after}
use Rattle.oracle_replay.specs.State.{state_bytes}
use Rattle.entry.specs.Entry.{frame_bytes}

-- no room is 0
abbrev pub count_of : Listed → ℕ
count_of (Ok n) = n
count_of (Err r) = 0

-- refusals stand in the listing
abbrev pub outcome_byte : Fired → ℕ
outcome_byte (Ok Born) = 1
outcome_byte (Ok NotEligible) = 2
outcome_byte (Ok Dropped) = 3
outcome_byte (Err r) = 0

-- what a field's trigger answers, on the run that it meets; 0 where the field is no trigger
unfoldable pub trigger_of : Run → Field → ℕ
trigger_of run (F.Rate x) = 0
trigger_of run (F.Configure c) = 0
trigger_of run (F.Source s f g b) = 0
trigger_of run (F.Retire s) = 0
trigger_of run (F.Release s) = 0
trigger_of run (F.Trigger s) = outcome_byte (triggered_of run.engine s).outcome
trigger_of run (F.Seek x) = 0
trigger_of run (F.Advance n) = 0
trigger_of run (F.Frame b x) = 0
trigger_of run (F.NoteInput b) = 0
trigger_of run F.Reset = 0
trigger_of run F.Reserve = 0
trigger_of run (F.ReservedTrigger s i) = outcome_byte (triggered_by run.engine s i).outcome

abbrev pub read_answer : Run → Read → ℕ
read_answer run (Ok (Some (f, k))) = trigger_of run f
read_answer run (Err r) = 0
read_answer run (Ok None) = 0

-- field n of the script stands at the start of s
unfoldable pub answer_byte : Run → ℕ → List ℕ → ℕ
answer_byte run n s = read_answer run (read_of s (eqb n 1))

-- what a field leaves: the state, the last accepted frame, the trigger's answer
unfoldable pub left_by : Run → ℕ → List (List ℕ)
left_by run answer = state_bytes run.engine ∷ frame_bytes run.frame ∷ (answer ∷ []) ∷ []

-- what the fields leave, from field n on, which stands at `at`, at most f of them
unfoldable pub left_from : ℕ → ℕ → Run → ℕ → ℕ → List ℕ → List ℕ
left_from start zero run n at s = []
left_from start (suc f) run n at s =
    let t = turn_of run n at s in
    let after = run_after start n t.run in
    cond (eqb t.taken 0) [] (joined (left_by after (answer_byte run n (drop at s))) ++ left_from start f after (n + 1) (at + t.taken) s)

-- each field takes a byte at least, so that these are all
unfoldable pub left_of : ℕ → List ℕ → List ℕ
left_of start s = left_from start (length s + 1) fresh 1 0 s

-- a script of lawful size, and 5,498 bytes for each byte of it: a field takes three or more, and leaves 16,493
abbrev pub fits : List ℕ → List ℕ → Bool
fits s o = leb (length s) 60000 && leb (5498 * length s) (length o)

unfoldable pub handed_count : ℕ → List ℕ → List ℕ → ℕ
handed_count start s o = pick (fits s o) (length (left_of start s)) 0

unfoldable pub handed_in : ℕ → List ℕ → List ℕ → List ℕ
handed_in start s o = pick (fits s o) (splice o 0 (left_of start s)) o
