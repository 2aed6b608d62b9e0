-- What a script prints on an engine that has counted samples already when its first field makes it, for the comparison with the Rust near the limit of samples. Definitions only.
use Rattle.std.specs.Prelude.{ℕ, zero, suc, ◌+◌, cond, List, [], ◌++◌, length, eqb, leb, ltb, Ok, Err}
use Rattle.sequences.specs.Pick.{pick}
use Rattle.text.specs.Put.{splice}
use Rattle.refusals.specs.declared.Refusal.TheVariants.{Script, Room}
use Rattle.state.specs.declared.Engine.{Engine}
use Rattle.state.specs.State.{with_clock}
use Rattle.script_steps.specs.declared.Run.{Run}
use Rattle.script_steps.specs.Steps.{fresh, with_engine}
use Rattle.listing.specs.declared.lines.Line.TheVariants as L
use Rattle.listing.specs.Listed.{Listed, room_for}
use Rattle.listing.specs.Lines.{text_of}
use Rattle.listing.specs.Turns.{turn_of}

abbrev pub with_sample : Engine → ℕ → Engine
with_sample e n = with_clock e (record { sample = n; phase = e.clock.phase; phase_offset = e.clock.phase_offset })

-- the count alone; a new engine has counted 0
unfoldable pub counted_of : ℕ → Run → Run
counted_of start run = pick (eqb start 0) run (with_engine run (with_sample run.engine start))

-- the first field makes the engine, which has counted so many samples then
unfoldable pub run_after : ℕ → ℕ → Run → Run
run_after start n run = pick (eqb n 1) (counted_of start run) run

-- the text of the turns from field n on, which stands at `at`, at most f of them
unfoldable pub text_late : ℕ → ℕ → Run → ℕ → ℕ → List ℕ → List ℕ
text_late start zero run n at s = []
text_late start (suc f) run n at s =
    let t = turn_of run n at s in
    text_of t.line ++ cond (eqb t.taken 0) [] (text_late start f (run_after start n t.run) (n + 1) (at + t.taken) s)

unfoldable pub printed_late : ℕ → List ℕ → List ℕ
printed_late start s = cond (leb (length s) 60000) (text_late start (length s + 1) fresh 1 0 s) (text_of (L.Bad 0 Script 0))

abbrev pub listed_late : ℕ → ℕ → List ℕ → Listed
listed_late start has s = cond (ltb has (room_for (length s))) (Err Room) (Ok (length (printed_late start s)))

abbrev pub left_late : ℕ → List ℕ → List ℕ → List ℕ
left_late start o s = cond (ltb (length o) (room_for (length s))) o (splice o 0 (printed_late start s))
