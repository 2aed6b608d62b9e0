-- How a script stops, as demand 1 has it: 12 before anything is run, 1 in field 1, the first bad field, or its end. Definitions only.
use Rattle.std.specs.Prelude.{ℕ, suc, ◌<◌, ◌≡◌, Bool, true, false, not, List, [], ◌∷◌, ◌++◌, eqb, ltb, length}
use Rattle.sequences.specs.Every.{Every}
use Rattle.sequences.specs.Pick.{pick}
use Rattle.refusals.specs.declared.Refusal.TheVariants.{Rate, Place, Script}
use Rattle.refusals.specs.Numbers.{number_of, answer_of}
use Rattle.script.specs.declared.fields.Field.{Field}
use Rattle.script.specs.Reading.{Verdict, sizes, onward}
use Rattle.script_writer_laws.specs.Events.{is_rate}
use Rattle.script_steps.specs.Steps.{fresh}
use Rattle.listing.specs.declared.lines.Line.{Line}
use Rattle.listing.specs.declared.lines.Line.TheVariants as L
use Rattle.listing.specs.declared.turns.Turn.{Turn}
use Rattle.listing.specs.Turns.{turns_of}
use Rattle.listing.specs.Last.{last_turn_of}
use Rattle.promises.specs.Over.{verdict_number, bad_at, last_line}
use Rattle.listing.specs.Printed.{lines_of, lines}
use Rattle.listing.specs.Ended.{bad_of}
use Rattle.promises.specs.Tests.{Row, first_of, tests_of}
use Rattle.promises.specs.Scripts.{fields_of, reached, course_of}

-- why the reader stopped
abbrev pub verdict_of : List ℕ → Verdict
verdict_of s = (onward 1 0 s).verdict

-- ---- numbers
-- of a line that stops the script
abbrev pub bad_number : Line → ℕ
bad_number L.Nothing = 0
bad_number (L.Frame n v) = 0
bad_number (L.Refused n r) = 0
bad_number (L.Bad n r p) = number_of r
bad_number (L.End n) = 0

-- of the first such line of a listing
abbrev pub bad_in : List Line → ℕ
bad_in [] = 0
bad_in (l ∷ ls) = pick (eqb (bad_number l) 0) (bad_in ls) (bad_number l)

-- of a line that says that the engine refused its field
abbrev pub refused_number : Line → ℕ
refused_number L.Nothing = 0
refused_number (L.Frame n v) = 0
refused_number (L.Refused n r) = number_of r
refused_number (L.Bad n r p) = number_of r
refused_number (L.End n) = 0

-- by which the engine refuses the first of the fields; 0 where it takes it, or there is none
abbrev pub rate_number : List Field → ℕ
rate_number [] = 0
rate_number (f ∷ fs) = first_of (tests_of fresh.engine f)

-- 1 where the engine refuses the rate, or else the number of the first bad field, 0 where there is none
abbrev pub stop_rows : List ℕ → List Row
stop_rows s = (not (eqb (rate_number (fields_of s)) 0), 1) ∷ (true, verdict_number (verdict_of s)) ∷ []

-- ---- turns
-- after such a line the next field is read
abbrev pub reads_on : Line → Bool
reads_on L.Nothing = true
reads_on (L.Frame n v) = true
reads_on (L.Refused n r) = true
reads_on (L.Bad n r p) = false
reads_on (L.End n) = false

-- every field that was read has its turn, after which the script goes on, and behind them stands the line of the verdict, a bad one with its place
pub record Through (s : List ℕ) : Type 0 where
  pub turns : List Turn
  pub last : Turn
  pub split : turns_of s ≡ turns ++ last ∷ []
  pub one_each : length turns ≡ length (fields_of s)
  pub go_on : Every (λ (t : Turn). reads_on t.line ≡ true) turns
  pub at_last : last.line ≡ last_line (suc (length turns)) (bad_at s (onward 1 0 s)) (verdict_of s)

pub record Stops (s : List ℕ) : Type 0 where
  -- the listing's number, 12 first: a script above 60,000 bytes has the one line `field 0 bad 12 at 0`, and an empty one `field 1 bad 11 at 0`
  pub listing : bad_in (lines s) ≡ first_of ((ltb 60000 (length s), 12) ∷ stop_rows s)
  pub too_long : 60000 < length s → lines s ≡ L.Bad 0 Script 0 ∷ []
  pub empty : s ≡ [] → lines s ≡ L.Bad 1 Place 0 ∷ []
  -- and the number for a host, which has judged 12 before
  pub number : answer_of (bad_of (last_turn_of s).line) ≡ first_of (stop_rows s)
  -- a first field that is read is the rate; where the engine refuses it, the one line is `field 1 bad 1 at 0`
  pub rate_first : (f : Field) (fs : List Field) → fields_of s ≡ f ∷ fs → is_rate f ≡ true
  pub stopped : (rate_number (fields_of s) ≡ 0 → ⊥) → lines_of (turns_of s) ≡ L.Bad 1 Rate 0 ∷ []
  -- otherwise every field is taken up, a refused one too, until one is bad or the script ends
  pub through : rate_number (fields_of s) ≡ 0 → Through s
  -- the reader stops behind the bytes of the fields that it took
  pub behind : (onward 1 0 s).stop ≡ sizes (onward 1 0 s).fields
  -- a field's line says a refusal exactly when the engine's tests give it
  pub refused : (before after : List Turn) (t : Turn) → turns_of s ≡ before ++ t ∷ after
      → (fs gs : List Field) (f : Field) → fields_of s ≡ fs ++ f ∷ gs → length fs ≡ length before
      → refused_number t.line ≡ first_of (tests_of (reached (course_of s (length before))) f)
