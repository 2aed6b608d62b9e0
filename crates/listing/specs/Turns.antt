-- A script from its first field to its end, a turn for each field. Definitions only.
use Rattle.std.specs.Prelude.{ℕ, zero, suc, ◌+◌, ◌-◌, Bool, cond, List, [], ◌∷◌, length, drop, ◌==◌, Some, None, Ok, Err}
use Rattle.sequences.specs.Pick.{pick}
use Rattle.refusals.specs.declared.Refusal.{Refusal}
use Rattle.refusals.specs.declared.Refusal.TheVariants.{HeaderCut}
use Rattle.refusals.specs.Numbers.{number_of}
use Rattle.script.specs.Field.{Read, read_of}
use Rattle.script_steps.specs.declared.Run.{Run}
use Rattle.script_steps.specs.Replies.{Reply}
use Rattle.listing.specs.declared.lines.Line.{Line}
use Rattle.listing.specs.declared.lines.Line.TheVariants as L
use Rattle.listing.specs.declared.turns.Turn.{Turn}
use Rattle.script_steps.specs.Steps.{fresh, step_of}

-- the run after a turn, its line, and the bytes that it took
abbrev pub told_of : Run → Line → ℕ → Turn
told_of run line k = record { run = run; line = line; taken = k }

-- a refusal in field 1, the rate's, is bad and stops the run; a later one goes on
abbrev pub refusal_of : Bool → Run → ℕ → ℕ → ℕ → Refusal → Turn
refusal_of first run n at k r = cond first (told_of run (L.Bad n r at) 0) (told_of run (L.Refused n r) k)

abbrev pub replied_of : ℕ → ℕ → ℕ → Run → Reply → Turn
replied_of n at k run (Ok None) = told_of run L.Nothing k
replied_of n at k run (Err r) = refusal_of (n == 1) run n at k r
replied_of n at k run (Ok (Some v)) = told_of run (L.Frame n v) k

-- the place that the reader's refusal is told with: that of the field's tag, or the end of the script where the header is cut
unfoldable pub bad_place : Refusal → ℕ → List ℕ → ℕ
bad_place r at s = pick (number_of r == number_of HeaderCut) (length s) at

abbrev pub after_of : Run → ℕ → ℕ → List ℕ → Read → Turn
after_of run n at s (Ok (Some (f, k))) = replied_of n at k (step_of run f).run (step_of run f).reply
after_of run n at s (Err r) = told_of run (L.Bad n r (bad_place r at s)) 0
after_of run n at s (Ok None) = told_of run (L.End (n - 1)) 0

-- field n of the script s, whose tag stands at `at`
unfoldable pub turn_of : Run → ℕ → ℕ → List ℕ → Turn
turn_of run n at s = after_of run n at s (read_of (drop at s) (n == 1))

-- the turns from field n on, at most f of them: the next field stands behind the bytes that this one took
unfoldable pub turns_from : ℕ → Run → ℕ → ℕ → List ℕ → List Turn
turns_from zero run n at s = []
turns_from (suc f) run n at s =
    let t = turn_of run n at s in
    t ∷ cond (t.taken == 0) [] (turns_from f t.run (n + 1) (at + t.taken) s)

-- each field takes a byte at least, so that these are all
abbrev pub turns_of : List ℕ → List Turn
turns_of s = turns_from (length s + 1) fresh 1 0 s
