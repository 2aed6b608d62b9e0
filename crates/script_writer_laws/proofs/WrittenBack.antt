-- A script that was read to its end, its events written again, is the script.
use Prim.Native.Nat.{ℕ, zero, suc, ◌≤◌, ◌<◌}
use mathlib.Core.Path.{◌≡◌, refl, sym, ap, subst, ◌∙◌}
use mathlib.Core.Bool.{Bool, false, true≢false}
use mathlib.Core.List.{List, [], ◌∷◌, ◌++◌}
use native.Mathlib.Omega.{arith}
use lib.Dec.{eqb, ltb, leb, eqb→eq}
use lib.ListN.{length, get_or, take, drop, length-drop, take-append-drop}
use lib.Seq.{drop-cons, drop-drop}
use lib.Ieee.Bits.{is_true}
use borrow.Author.Tests.{eqb-false, ltb-true, ltb-false}
use Rattle.sequences.specs.All.{all-at}
use Rattle.sequences.specs.Every.{Every, every_get_or}
use Rattle.sequences.specs.Pick.{by-case}
use Rattle.script.specs.Table.{kind_of, length_of}
use Rattle.script.specs.declared.fields.Field.{Field}
use Rattle.script.specs.declared.tags.Kind.TheVariants as K
use Rattle.script.specs.Field.{unknown}
use Rattle.script.specs.Reading.{Reading, ended, reading_of}
use Rattle.script.proofs.Steps.{Reads, field, wrong, end, onward-reads}
use Rattle.script.proofs.Whole.{Whole, whole, kind_at, end_is-empty}
use Rattle.script.proofs.Places.{bad_not_ended}
use Rattle.script_writer.specs.Encoded.{encoded, encoded_all}
use Rattle.script_writer_laws.specs.Events.{Nans, PlainNans, Byte, events}
use Rattle.script_writer_laws.proofs.Pieces.{tag_of, event_again}

-- ---- the tag of a known kind
abbrev tag_test : ℕ → Bool
tag_test t = eqb (tag_of (kind_of t)) t

pub known_tag : (t : ℕ) → unknown t ≡ false → (0 < t) × (t < 14)
unfolding unknown
known_tag t e =
    by-case (eqb t 0)
    (λ y. absurd (true≢false (rw y at e)))
    (λ y. by-case (ltb 13 t)
    (λ z. absurd (true≢false (rw (y, z) at e)))
    (λ z. let a = eqb-false t 0 y in let b = ltb-false 13 t z in (omega arith, omega arith)))

pub tag_again : (t : ℕ) → t < 14 → tag_of (kind_of t) ≡ t
tag_again t h = eqb→eq (tag_of (kind_of t)) t (all-at tag_test 14 tt t h)

known_kind : (t : ℕ) → unknown t ≡ false → kind_of t ≡ K.Unknown → ⊥
known_kind t e u = let z : tag_of (kind_of t) ≡ 0 = ap tag_of u in omega (arith, (known_tag t e).0, tag_again t (known_tag t e).1)

-- every length is one byte's
abbrev length_test : ℕ → Bool
length_test t = ltb (length_of (kind_of t)) 256

short : (t : ℕ) → t < 14 → length_of (kind_of t) < 256
short t h = ltb-true _ _ (is_true _ (all-at length_test 14 tt t h))

-- ---- bytes
every_drop : {A : Type 0} (P : A → Type 0) (n : ℕ) (l : List A) → Every P l → Every P (drop n l)
every_drop P zero l a = a
every_drop P (suc n) [] a = a
every_drop P (suc n) (x ∷ l) a = every_drop P n l a.1

three : (s : List ℕ) → 3 ≤ length s → s ≡ get_or s 0 0 ∷ get_or s 1 0 ∷ get_or s 2 0 ∷ drop 3 s
three s h = drop-cons s 0 0 (omega arith) ∙ ap (λ (l : List ℕ). get_or s 0 0 ∷ l) (drop-cons s 1 0 (omega arith) ∙ ap (λ (l : List ℕ). get_or s 1 0 ∷ l) (drop-cons s 2 0 (omega arith)))

-- ---- a field
module _ (s : List ℕ) (bytes : Every Byte s) (first : Bool) {f : Field} {k : ℕ} (w : Whole s first f k) (c : Nans f (drop 3 s)) where
  high : get_or s 1 0 ≡ 0
  high = let e = w.said in omega (arith, short (get_or s 0 0) (known_tag (get_or s 0 0) w.known).1, every_get_or Byte s 2 0 (omega arith) bytes)

  low : get_or s 2 0 ≡ length_of (kind_at s)
  low = let e = w.said in omega (arith, short (get_or s 0 0) (known_tag (get_or s 0 0) w.known).1, every_get_or Byte s 2 0 (omega arith) bytes)

  again : encoded f ≡ get_or s 0 0 ∷ get_or s 1 0 ∷ get_or s 2 0 ∷ take (length_of (kind_at s)) (drop 3 s)
  again =
      let t = get_or s 0 0 in
      ap encoded (sym w.is)
      ∙ event_again (drop 3 s) (every_drop Byte 3 s bytes) (kind_at s) (known_kind t w.known) (let l = w.fits in rw length-drop l) w.good (subst (λ (g : Field). Nans g (drop 3 s)) (sym w.is) c)
      ∙ rw (high, low, tag_again t (known_tag t w.known).1)

  pub field_again : encoded f ++ drop k s ≡ s
  field_again =
      let m = length_of (kind_at s) in
      let v : List ℕ = drop 3 s in
      ap (λ (l : List ℕ). l ++ drop k s) again
      ∙ ap (λ (l : List ℕ). get_or s 0 0 ∷ get_or s 1 0 ∷ get_or s 2 0 ∷ l) (ap (λ (i : ℕ). take m v ++ drop i s) (sym w.takes) ∙ ap (λ (l : List ℕ). take m v ++ l) (sym (drop-drop m 3 s)) ∙ take-append-drop m v)
      ∙ sym (three s w.long)

empty : (l : List ℕ) → length l ≡ 0 → [] ≡ l
empty [] e = refl
empty (x ∷ l) e = absurd (omega arith)

-- ---- a script
from_place : (script : List ℕ) {n at : ℕ} {s : List ℕ} {r : Reading} → Reads n at s r → s ≡ drop at script → Every Byte s → r.verdict ≡ ended
    → Every (PlainNans script) r.fields → encoded_all (events r) ≡ s
from_place script {n} {at} {s} (field {f = f} {k = k} e lo hi d) p b v c =
    let nans : Nans f (drop 3 s) = rw (p, drop-drop 3 at script) c.0 in
    ap (λ (l : List ℕ). encoded f ++ l) (from_place script d (ap (λ (l : List ℕ). drop k l) p ∙ drop-drop k at script) (every_drop Byte k s b) v c.1)
    ∙ field_again s b (eqb n 1) (whole s (eqb n 1) e) nans
from_place script (wrong e) p b v c = bad_not_ended v
from_place script {n} {at} {s} (end e) p b v c = empty s (end_is-empty s (eqb n 1) e)

pub script_again : (s : List ℕ) → Every Byte s → (reading_of s).verdict ≡ ended → Every (PlainNans s) (reading_of s).fields
    → encoded_all (events (reading_of s)) ≡ s
unfolding reading_of
script_again s b v c =
    by-case (leb (length s) 60000)
    (λ y. rw y (from_place s (onward-reads 1 0 s) refl b (rw y at v) (rw y at c)))
    (λ y. bad_not_ended (rw y at v))
