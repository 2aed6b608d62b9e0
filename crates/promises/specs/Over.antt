-- The turns of a run over a list of fields and the verdict behind it, which is told with its place. Definitions only.
use Rattle.std.specs.Prelude.{ℕ, ◌+◌, ◌-◌, cond, List, [], ◌∷◌, eqb, length}
use Rattle.sequences.specs.Pick.{pick}
use Rattle.refusals.specs.Numbers.{number_of}
use Rattle.script_steps.specs.declared.Run.{Run}
use Rattle.script_steps.specs.Steps.{step_of}
use Rattle.listing.specs.declared.lines.Line.{Line}
use Rattle.listing.specs.declared.lines.Line.TheVariants as L
use Rattle.listing.specs.declared.turns.Turn.{Turn}
use Rattle.listing.specs.Turns.{told_of, replied_of}
use Rattle.script.specs.Reading.{Placed, Verdict, Reading, ended, bad}

abbrev pub verdict_number : Verdict → ℕ
verdict_number ended = 0
verdict_number (bad r) = number_of r

-- the place that a bad field is told with: where the reader stopped, which is where its tag stands; where its header is cut, the end of the script
abbrev pub bad_at : List ℕ → Reading → ℕ
bad_at s r = pick (eqb (verdict_number r.verdict) 14) (length s) r.stop

-- what a verdict prints at field n, with a place
abbrev pub last_line : ℕ → ℕ → Verdict → Line
last_line n at ended = L.End (n - 1)
last_line n at (bad c) = L.Bad n c at

-- field n is the first of the list, and a bad verdict is told with a place; a rate that the engine refuses stops the run
unfoldable pub turns_over : Run → ℕ → List Placed → ℕ → Verdict → List Turn
turns_over run n [] at v = told_of run (last_line n at v) 0 ∷ []
turns_over run n (p ∷ ps) at v =
    let t = replied_of n p.place p.size (step_of run p.field).run (step_of run p.field).reply in
    t ∷ cond (eqb t.taken 0) [] (turns_over t.run (n + 1) ps at v)
