-- What a whole script prints. Definitions only.
use Rattle.std.specs.Prelude.{ℕ, cond, List, [], ◌∷◌, map, length, nat_le}
use Rattle.refusals.specs.declared.Refusal.TheVariants.{Script}
use Rattle.script_steps.specs.declared.Run.{Run}
use Rattle.listing.specs.declared.lines.Line.{Line}
use Rattle.listing.specs.declared.lines.Line.TheVariants as L
use Rattle.listing.specs.Lines.{text_all}
use Rattle.listing.specs.declared.turns.Turn.{Turn}
use Rattle.listing.specs.Turns.{turns_from, turns_of}

abbrev pub lines_of : List Turn → List Line
lines_of ts = map (λ (t : Turn). t.line) ts

-- the text of the turns from field n on, which stands at `at`
abbrev pub text_from : ℕ → Run → ℕ → ℕ → List ℕ → List ℕ
text_from f run n at s = text_all (lines_of (turns_from f run n at s))

-- a script of lawful size prints the lines of its turns; a longer one is not run
abbrev pub lines : List ℕ → List Line
lines s = cond (nat_le (length s) 60000) (lines_of (turns_of s)) (L.Bad 0 Script 0 ∷ [])

unfoldable pub printed : List ℕ → List ℕ
printed s = text_all (lines s)
