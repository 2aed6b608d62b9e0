-- A script has one rate: the first field that is read is one, and none behind it is.
use Rattle.std.specs.Prelude.{Some, Ok}
use Prim.Native.Nat.{ℕ, ◌≤◌}
use native.Mathlib.Omega.{arith}
use mathlib.Core.Path.{◌≡◌, refl, sym, ap, ◌∙◌, subst}
use mathlib.Core.Bool.{Bool, true, false, not, cond, true≢false}
use mathlib.Core.List.{List, ◌∷◌}
use lib.Dec.{eqb}
use lib.ListN.{get_or}
use borrow.Author.Tests.{eq-eqb, ne_eqb}
use Rattle.sequences.specs.Every.{Every}
use Rattle.script.specs.Table.{field_of}
use Rattle.script.specs.declared.fields.Field.{Field}
use Rattle.script.specs.declared.tags.Kind.{Kind}
use Rattle.script.specs.declared.tags.Kind.TheVariants as K
use Rattle.script.specs.Field.{misplaced, read_of}
use Rattle.script.specs.Reading.{Reading, onward}
use Rattle.script.proofs.Steps.{Reads, field, wrong, end, onward-reads}
use Rattle.script.proofs.Whole.{whole, kind_at, value_of}
use Rattle.script_writer_laws.specs.Events.{is_rate, NoRate, events}
use Rattle.script_writer_laws.proofs.Pieces.{tag_of}
use Rattle.script_writer_laws.proofs.WrittenBack.{known_tag, tag_again}

-- a rate is what tag 1 stands for
kind_rate : (k : Kind) (v : List ℕ) → is_rate (field_of k v) ≡ eqb (tag_of k) 1
kind_rate K.Unknown v = refl
kind_rate K.Rate v = refl
kind_rate K.Configure v = refl
kind_rate K.Source v = refl
kind_rate K.Retire v = refl
kind_rate K.Release v = refl
kind_rate K.Trigger v = refl
kind_rate K.Seek v = refl
kind_rate K.Advance v = refl
kind_rate K.Frame v = refl
kind_rate K.NoteInput v = refl
kind_rate K.Reset v = refl
kind_rate K.Reserve v = refl
kind_rate K.ReservedTrigger v = refl

placed : (first is : Bool) → cond first (not is) is ≡ false → is ≡ first
placed true true h = refl
placed true false h = absurd (true≢false h)
placed false true h = absurd (true≢false h)
placed false false h = refl

-- a field that is read is a rate exactly where it is the first
read_rate : (s : List ℕ) (first : Bool) {f : Field} {k : ℕ} → read_of s first ≡ Ok (Some (f, k)) → is_rate f ≡ first
unfolding misplaced
read_rate s first e =
    let w = whole s first e in
    let t = get_or s 0 0 in
    ap is_rate (sym w.is)
    ∙ kind_rate (kind_at s) (value_of s)
    ∙ ap (λ (n : ℕ). eqb n 1) (tag_again t (known_tag t w.known).1)
    ∙ placed first (eqb t 1) w.in_place

later : {n at : ℕ} {s : List ℕ} {r : Reading} → Reads n at s r → 2 ≤ n → Every NoRate (events r)
later {n} {at} {s} (field e lo hi d) h = (read_rate s (eqb n 1) e ∙ ne_eqb n 1 (λ q. omega arith), later d (omega arith))
later (wrong e) h = tt
later (end e) h = tt

from_first : {n at : ℕ} {s : List ℕ} {r : Reading} → Reads n at s r → n ≡ 1 → (f : Field) (fs : List Field) → events r ≡ f ∷ fs → (is_rate f ≡ true) × Every NoRate fs
from_first {n} {at} {s} (field {f = g} {r = r} e lo hi d) q f fs h =
    let same : g ≡ f = cc in
    let rest : events r ≡ fs = cc in
    (ap is_rate (sym same) ∙ read_rate s (eqb n 1) e ∙ eq-eqb n 1 q, subst (Every NoRate) rest (later d (omega (arith, q))))
from_first (wrong e) q f fs h = absurd (let z : ◌≡◌ {A = ℕ} 0 1 = cc in omega arith)
from_first (end e) q f fs h = absurd (let z : ◌≡◌ {A = ℕ} 0 1 = cc in omega arith)

pub one-rate : (s : List ℕ) (f : Field) (fs : List Field) → events (onward 1 0 s) ≡ f ∷ fs → (is_rate f ≡ true) × Every NoRate fs
one-rate s = from_first (onward-reads 1 0 s) refl
