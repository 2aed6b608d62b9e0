-- A list of events that was written is read back, event by event.
use Rattle.std.specs.Prelude.{Some, Ok}
use Prim.Native.Nat.{ℕ, ◌+◌, ◌≤◌}
use mathlib.Core.Path.{◌≡◌, refl, sym, ap, ◌∙◌}
use mathlib.Core.Bool.{false}
use mathlib.Core.List.{List, [], ◌∷◌, ◌++◌}
use native.Mathlib.Omega.{arith}
use lib.ListN.{length, length-append}
use lib.Seq.{drop-append_seam}
use lib.Dec.{eqb}
use borrow.Author.Tests.{ne_eqb, le-leb}
use Rattle.sequences.specs.Every.{Every}
use Rattle.script.specs.declared.fields.Field.{Field}
use Rattle.script.specs.Field.{read_of}
use Rattle.script.specs.Reading.{Reading, field_at, stopped, in_front, ended, reading_of}
use Rattle.script.proofs.Steps.{Reads, field, end, only, moved}
use Rattle.script.proofs.Whole.{end_of_all}
use Rattle.script_writer.proofs.Sizes.{three_bytes}
use Rattle.script_writer.specs.Encoded.{encoded, encoded_all}
use Rattle.script_writer_laws.specs.Events.{Writable, NoRate, Ordered, events}
use Rattle.script_writer_laws.proofs.Back.{field_back}

-- the reading of what was written, from a place on
abbrev pub back_reading : ℕ → List Field → Reading
back_reading at [] = stopped at ended
back_reading at (f ∷ fs) = in_front (field_at at (length (encoded f)) f) (back_reading (at + length (encoded f)) fs)

later : (n : ℕ) → 2 ≤ n → eqb n 1 ≡ false
later n h = ne_eqb n 1 (λ e. omega arith)

-- one event, and what is behind it
one_more : {n at : ℕ} (f : Field) (fs : List Field) {r : Reading} → read_of (encoded f ++ encoded_all fs) (eqb n 1) ≡ Ok (Some (f, (length (encoded f))))
    → Reads (n + 1) (at + length (encoded f)) (encoded_all fs) r → Reads n at (encoded_all (f ∷ fs)) (in_front (field_at at (length (encoded f)) f) r)
one_more f fs e d =
    field e (three_bytes f) (omega (arith, length-append (encoded f) (encoded_all fs)))
    (moved refl refl (sym (drop-append_seam (encoded f) (encoded_all fs))) d)

from_second : (n at : ℕ) (fs : List Field) → 2 ≤ n → Every Writable fs → Every NoRate fs → Reads n at (encoded_all fs) (back_reading at fs)
from_second n at [] l h o = end {n = n} {at = at} {s = []} (end_of_all n l)
from_second n at (f ∷ fs) l h o =
    one_more f fs (field_back f (encoded_all fs) (eqb n 1) h.0 (o.0 ∙ sym (later n l)))
    (from_second (n + 1) (at + length (encoded f)) fs (omega arith) h.1 o.1)

all_back : (es : List Field) → Every Writable es → Ordered es → Reads 1 0 (encoded_all es) (back_reading 0 es)
all_back [] h o = absurd o
all_back (f ∷ fs) h o =
    one_more {n = 1} {at = 0} f fs (field_back f (encoded_all fs) (eqb 1 1) h.0 o.0)
    (from_second 2 (0 + length (encoded f)) fs (omega arith) h.1 o.1)

pub reading-back : (es : List Field) → Every Writable es → Ordered es → length (encoded_all es) ≤ 60000 → reading_of (encoded_all es) ≡ back_reading 0 es
unfolding reading_of
reading-back es h o l = rw (le-leb _ _ l) (sym (only (all_back es h o)))

pub events-back : (at : ℕ) (es : List Field) → events (back_reading at es) ≡ es
events-back at [] = refl
events-back at (f ∷ fs) = ap (λ (l : List Field). f ∷ l) (events-back (at + length (encoded f)) fs)

pub ends-back : (at : ℕ) (es : List Field) → (back_reading at es).verdict ≡ ended
ends-back at [] = refl
ends-back at (f ∷ fs) = ends-back (at + length (encoded f)) fs
