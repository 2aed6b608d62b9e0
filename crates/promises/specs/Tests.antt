-- The terms of demand 1: tests with their numbers, and the number of each kind of answer. Definitions only.
use Rattle.std.specs.Prelude.{ℕ, ◌+◌, ◌*◌, ◌^◌, ◌≡◌, Bool, true, false, not, ◌&&◌, ◌||◌, List, [], ◌∷◌, ◌++◌, eqb, ltb, leb, length, get_or, Float, Some, None, Ok, Err}
use Rattle.std.specs.Float.Ieee.{le}
use Rattle.std.specs.Float.Ieee.Scale.{finite}
use Rattle.sequences.specs.All.{all}
use Rattle.sequences.specs.Pick.{pick}
use Rattle.floats.specs.Names.{f32}
use Rattle.refusals.specs.Numbers.{number_of, answer_of}
use Rattle.state.specs.declared.Done.{Done}
use Rattle.state.specs.declared.Engine.{Engine}
use Rattle.mask_records.specs.Decibels.{is_entry}
use Rattle.mask_records.specs.Placed.{Written}
use Rattle.mask_records.specs.Found as reader
use Rattle.big_endian.specs.Numbers.{be16}
use Rattle.script.specs.declared.fields.Field.{Field}
use Rattle.script.specs.declared.fields.Field.TheVariants as F
use Rattle.script.specs.Field.{Read}
use Rattle.script_steps.specs.Replies.{Reply}
use Rattle.listing.specs.Listed.{Listed}

-- a test, and the number that is given where it is the first to hold
abbrev pub Row : Type 0
Row = Bool × ℕ

-- the number of the first test that holds; 0, a call that is taken, where none does
unfoldable pub first_of : List Row → ℕ
first_of [] = 0
first_of (row ∷ rows) = pick row.0 row.1 (first_of rows)

abbrev pub NoneHolds : List Row → Type 0
NoneHolds [] = Unit {0}
NoneHolds (row ∷ rows) = (row.0 ≡ false) × NoneHolds rows

-- a row with the number k holds, and none before it does
pub record Given (rows : List Row) (k : ℕ) : Type 0 where
  pub before : List Row
  pub after : List Row
  pub split : rows ≡ before ++ (true, k) ∷ after
  pub none : NoneHolds before

-- ---- the tests
-- 1: the rate is not finite, or outside 8,000 to 384,000
abbrev pub bad_rate : Float → Bool
bad_rate rate = not (finite rate && (le (f32 0x45fa0000) rate && le rate (f32 0x48bb8000)))

-- 2: slot 256 or above
abbrev pub bad_slot : ℕ → Bool
bad_slot slot = not (ltb slot 256)

-- 4: elapsed samples above 2^40
abbrev pub past_limit : Engine → ℕ → Bool
past_limit e n = not (leb (e.clock.sample + n) (2 ^ 40))

-- 7: the seconds are negative or not finite; minus zero is not below 0
abbrev pub bad_seconds : Float → Bool
bad_seconds seconds = not (finite seconds && le (f32 0) seconds)

-- 19: no tag 32 of ten bytes, a count outside 1 to 8,193, no tag 33 of two bytes a bin, bytes that end within it, or an entry that isn't in the table
abbrev pub bad_record : List ℕ → Bool
bad_record s =
    let n = be16 s 11 in
    not ((eqb (get_or s 0 0) 32 && eqb (be16 s 1) 10) && ((leb 1 n && leb n 8193) && ((eqb (get_or s 13 0) 33 && eqb (be16 s 14) (2 * n)) && leb (16 + 2 * n) (length s))))
    || not (all (λ i. is_entry (be16 s (16 + 2 * i))) n)

-- the engine's tests of a field, one line a tag. Seek, note input, reset and reserve are never refused.
abbrev pub tests_of : Engine → Field → List Row
tests_of e (F.Rate x) = (bad_rate x, 1) ∷ []
tests_of e (F.Configure c) = (ltb 16384 c.hop_samples, 3) ∷ []
tests_of e (F.Source s f g b) = (bad_slot s, 2) ∷ []
tests_of e (F.Retire s) = (bad_slot s, 2) ∷ []
tests_of e (F.Release s) = (bad_slot s, 2) ∷ []
tests_of e (F.Trigger s) = (bad_slot s, 2) ∷ []
tests_of e (F.Seek x) = []
tests_of e (F.Advance n) = (past_limit e n, 4) ∷ []
tests_of e (F.Frame b x) = (bad_seconds x, 7) ∷ []
tests_of e (F.NoteInput b) = []
tests_of e F.Reset = []
tests_of e F.Reserve = []
tests_of e (F.ReservedTrigger s i) = (bad_slot s, 2) ∷ []

-- ---- the numbers of answers
abbrev pub reply_number : Reply → ℕ
reply_number r = answer_of r

abbrev pub read_number : Read → ℕ
read_number r = answer_of r

abbrev pub listed_number : Listed → ℕ
listed_number r = answer_of r

abbrev pub record_number : Written → ℕ
record_number r = answer_of r

abbrev pub found_number : reader.Read → ℕ
found_number r = answer_of r

-- a refusal leaves the engine as it was
abbrev pub Kept : Engine → Done → Type 0
Kept e d = (answer_of d.answer ≡ 0 → ⊥) → d.engine ≡ e
