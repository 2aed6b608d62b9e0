-- WHICH END OF THE FILE IS BROKEN, as it is promised. Where a script goes bad and is not empty, its number tells what to look for: 14 and 16, bytes that are missing at its end; every other, bytes that are wrong where it stopped.
use Rattle.std.specs.Prelude.{ℕ, ◌<◌, ◌≡◌, ◌⊎◌, List, ◌++◌, length}
use Rattle.refusals.specs.declared.Refusal.{Refusal}
use Rattle.refusals.specs.Numbers.{number_of}
use Rattle.script.specs.Reading.{Placed, ended, bad, onward}
use Rattle.promises.specs.Over.{verdict_number}
use Rattle.promises.specs.Stops.{verdict_of}

-- what a cut left of a script: the first of its fields, and then nothing, one or two bytes of a header, or a header with some of its value
pub record Beginning (s whole : List ℕ) : Type 0 where
  pub later : List Placed
  pub fields : (onward 1 0 whole).fields ≡ (onward 1 0 s).fields ++ later
  pub number : (verdict_number (verdict_of s) ≡ 0) ⊎ (verdict_number (verdict_of s) ≡ 14) ⊎ (verdict_number (verdict_of s) ≡ 16)

pub record WhichEnd : Type 0 where
  -- an upload that was cut: what is left of a script that is read to its end, if it is anything, goes bad with 14 or 16 if it does
  pub cut : (s rest : List ℕ) → verdict_of (s ++ rest) ≡ ended → 0 < length s → Beginning s (s ++ rest)
  -- a tool that writes wrong bytes: a script that goes bad with another number is read the same, fields, number and place, whatever follows it
  pub wrong : (s rest : List ℕ) → 0 < length s → (r : Refusal) → verdict_of s ≡ bad r → (number_of r ≡ 14 → ⊥) → (number_of r ≡ 16 → ⊥) → onward 1 0 (s ++ rest) ≡ onward 1 0 s
  -- 9 is the number of no refusal
  pub no_nine : (r : Refusal) → number_of r ≡ 9 → ⊥
