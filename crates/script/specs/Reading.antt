-- The fields of a script with their places, and the verdict that stopped the reader. Definitions only.
use Rattle.std.specs.Prelude.{ℕ, zero, suc, ◌+◌, cond, List, [], ◌∷◌, length, drop, eqb, leb, Some, None, Ok, Err}
use Rattle.refusals.specs.declared.Refusal.{Refusal}
use Rattle.refusals.specs.declared.Refusal.TheVariants.{Script}
use Rattle.script.specs.declared.fields.Field.{Field}
use Rattle.script.specs.Field.{Read, read_of}

-- a field, the place of its tag, and how many bytes it takes
pub record Placed : Type 0 where
  pub place : ℕ
  pub size : ℕ
  pub field : Field

pub data Verdict : Type 0 where
  ended : Verdict
  bad : Refusal → Verdict

-- how many bytes fields take together
abbrev pub sizes : List Placed → ℕ
sizes [] = 0
sizes (p ∷ ps) = p.size + sizes ps

-- the fields that were taken; then the place where the reader stopped, and why
pub record Reading : Type 0 where
  pub fields : List Placed
  pub stop : ℕ
  pub verdict : Verdict

abbrev pub field_at : ℕ → ℕ → Field → Placed
field_at at k f = record { place = at; size = k; field = f }

abbrev pub stopped : ℕ → Verdict → Reading
stopped at v = record { fields = []; stop = at; verdict = v }

abbrev pub in_front : Placed → Reading → Reading
in_front p r = record { fields = p ∷ r.fields; stop = r.stop; verdict = r.verdict }

abbrev pub after_read : ℕ → Read → (ℕ → Reading) → Reading
after_read at (Ok (Some (f, k))) rest = in_front (field_at at k f) (rest k)
after_read at (Err c) rest = stopped at (bad c)
after_read at (Ok None) rest = stopped at ended

-- at most so many fields, the first of them field n of its script, at a place
unfoldable pub read_from : ℕ → ℕ → ℕ → List ℕ → Reading
read_from zero n at s = stopped at ended
read_from (suc most) n at s = after_read at (read_of s (eqb n 1)) (λ k. read_from most (n + 1) (at + k) (drop k s))

-- each field takes a byte at least, so that these are all
unfoldable pub onward : ℕ → ℕ → List ℕ → Reading
onward n at s = read_from (suc (length s)) n at s

-- a script above 60,000 bytes is not read
unfoldable pub reading_of : List ℕ → Reading
reading_of s = cond (leb (length s) 60000) (onward 1 0 s) (stopped 0 (bad Script))
