-- The fields of a script written one after the other: a field and then the rest of them, up to where the reader stops.
use Rattle.std.specs.Prelude.{Some, None, Ok, Err}
use Prim.Native.Nat.{ℕ, ◌+◌, ◌-◌, ◌≤◌}
use mathlib.Core.Path.{◌≡◌, refl, sym, ap, ◌∙◌}
use mathlib.Core.List.{List, [], ◌∷◌, ◌++◌}
use native.Mathlib.Omega.{arith}
use lib.ListN.{length, drop, length-drop}
use lib.Seq.{drop-drop}
use lib.Dec.{eqb}
use Rattle.text.specs.Put.{buffer_of}
use Rattle.text.proofs.Laws.{piece}
use Rattle.script.specs.declared.fields.Field.{Field}
use Rattle.script.specs.Field.{Read, read_of}
use Rattle.script.proofs.Taken as T
use Rattle.script.specs.Reading.{onward}
use Rattle.script.proofs.Steps.{field, wrong, end, onward-reads, only}
use Rattle.script_writer.specs.Encoded.{encoded}
use Rattle.script_writer.specs.Written.{written_of}
use Rattle.script_writer_laws.specs.Events.{events}
use Rattle.script_writer_laws.specs.InARow.{count_after, bytes_after}
use Rattle.oracle_rewrite.specs.Rewritten.{field_in, taken_by}

-- ---- events one behind the other
count_append : (es fs : List Field) (o : List ℕ) (w : ℕ) → count_after o w (es ++ fs) ≡ count_after (bytes_after o w es) (count_after o w es) fs
unfolding count_after bytes_after
count_append [] fs o w = refl
count_append (e ∷ es) fs o w = count_append es fs (buffer_of o w (encoded e)) (written_of (length o) w (encoded e)).0

bytes_append : (es fs : List Field) (o : List ℕ) (w : ℕ) → bytes_after o w (es ++ fs) ≡ bytes_after (bytes_after o w es) (count_after o w es) fs
unfolding count_after bytes_after
bytes_append [] fs o w = refl
bytes_append (e ∷ es) fs o w = bytes_append es fs (buffer_of o w (encoded e)) (written_of (length o) w (encoded e)).0

pub bytes_length : (es : List Field) (o : List ℕ) (w : ℕ) → length (bytes_after o w es) ≡ length o
unfolding bytes_after
bytes_length [] o w = refl
bytes_length (e ∷ es) o w =
    bytes_length es (buffer_of o w (encoded e)) (written_of (length o) w (encoded e)).0 ∙ (piece (refl, refl)).same

-- ---- the fields of a script from a place on
module _ (n at : ℕ) (s : List ℕ) where
  stops : (r : Read) → read_of s (eqb n 1) ≡ r → T.Taken r (length s) → taken_by r ≡ 0 → events (onward n at s) ≡ field_in r
  stops (Ok (Some (f, k))) e (T.field lo hi) z = absurd (omega arith)
  stops (Err c) e T.bad z = ap events (sym (only (wrong {at = at} e)))
  stops (Ok None) e T.end z = ap events (sym (only (end {at = at} e)))

  goes : (r : Read) → read_of s (eqb n 1) ≡ r → T.Taken r (length s) → (taken_by r ≡ 0 → ⊥)
      → events (onward n at s) ≡ field_in r ++ events (onward (n + 1) (at + taken_by r) (drop (taken_by r) s))
  goes (Ok (Some (f, k))) e (T.field lo hi) z = ap events (sym (only (field e lo hi (onward-reads (n + 1) (at + k) (drop k s)))))
  goes (Err c) e T.bad z = absurd (z refl)
  goes (Ok None) e T.end z = absurd (z refl)

  within : (r : Read) → T.Taken r (length s) → taken_by r ≤ length s
  within (Ok (Some (f, k))) (T.field lo hi) = hi
  within (Err c) T.bad = omega arith
  within (Ok None) T.end = omega arith

-- what is written of the whole script is what is written of the fields that are left, behind what stands there
pub record Left (script o₀ out : List ℕ) (n at w : ℕ) : Type 0 where
  pub count : count_after o₀ 0 (events (onward 1 0 script)) ≡ count_after out w (events (onward n at (drop at script)))
  pub bytes : bytes_after o₀ 0 (events (onward 1 0 script)) ≡ bytes_after out w (events (onward n at (drop at script)))

pub from_first : (script o : List ℕ) → Left script o o 1 0 0
from_first script o = record { count = refl; bytes = refl }

module _ (script o₀ out : List ℕ) (n at w : ℕ) (g : Left script o₀ out n at w) where
  abbrev here : List ℕ
  here = drop at script

  abbrev read : Read
  read = read_of here (eqb n 1)

  pub taken-left : {k : ℕ} → k ≡ taken_by read → k ≤ length script - at
  taken-left e = omega (arith, e, within n at here read (T.taken here (eqb n 1)), length-drop at script)

  pub stop : {p : List ℕ} {r k : ℕ} → k ≡ taken_by read → k ≡ 0 → r ≡ count_after out w (field_in read) → p ≡ bytes_after out w (field_in read)
      → (r ≡ count_after o₀ 0 (events (onward 1 0 script))) × (p ≡ bytes_after o₀ 0 (events (onward 1 0 script)))
  stop e z c b =
      let all = stops n at here read refl (T.taken here (eqb n 1)) (sym e ∙ z) in
      (c ∙ sym (g.count ∙ ap (λ (fs : List Field). count_after out w fs) all), b ∙ sym (g.bytes ∙ ap (λ (fs : List Field). bytes_after out w fs) all))

  pub go_on : {p : List ℕ} {r k : ℕ} → k ≡ taken_by read → (k ≡ 0 → ⊥) → r ≡ count_after out w (field_in read) → p ≡ bytes_after out w (field_in read)
      → Left script o₀ p (n + 1) (at + k) r
  go_on e z c b =
      let k = taken_by read in
      let next = events (onward (n + 1) (at + k) (drop (at + k) script)) in
      let behind = ap (λ (l : List ℕ). field_in read ++ events (onward (n + 1) (at + k) l)) (drop-drop k at script) in
      let more = goes n at here read refl (T.taken here (eqb n 1)) (λ q. z (e ∙ q)) ∙ behind in
      rw (e, c, b)
      (record {
        count = g.count ∙ ap (λ (fs : List Field). count_after out w fs) more ∙ count_append (field_in read) next out w;
        bytes = g.bytes ∙ ap (λ (fs : List Field). bytes_after out w fs) more ∙ bytes_append (field_in read) next out w;
      })
