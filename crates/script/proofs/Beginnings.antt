-- The beginning of a script and the whole of it: a field that is read in the one is read in the other, where its bytes reach; bytes that are wrong stay wrong, and bytes that are missing are 14 or 16.
use Rattle.std.specs.Prelude.{Some, None, Ok, Err}
use Prim.Native.Nat.{ℕ, ◌+◌, ◌-◌, ◌≤◌, ◌<◌}
use mathlib.Core.Path.{◌≡◌, refl, sym, ap, ◌∙◌, subst}
use mathlib.Core.Bool.{Bool, true, false}
use mathlib.Core.List.{List, [], ◌∷◌, ◌++◌}
use mathlib.Core.Logic.{◌⊎◌, inl, inr}
use native.Mathlib.Omega.{arith}
use lib.Dec.{eqb, ltb, leb}
use lib.ListN.{length, get_or, drop, length-append, get_or-append}
use lib.Seq.{get_or-drop, drop-append-le}
use borrow.Author.Tests.{eq-eqb, ne_eqb, eqb-true, eqb-false, le-ltb, ltb-false, le-leb, lt-leb, leb-true, leb-false}
use Rattle.sequences.specs.Pick.{by-case}
use Rattle.refusals.specs.declared.Refusal.{Refusal}
use Rattle.refusals.specs.declared.Refusal.TheVariants.{HeaderCut, ValueCut}
use Rattle.big_endian.specs.Numbers.{be16, be32, be64}
use Rattle.script.specs.Table.{kind_of, length_of, lawful, field_of}
use Rattle.script.specs.declared.tags.Kind.{Kind}
use Rattle.script.specs.declared.tags.Kind.TheVariants as K
use Rattle.script.specs.declared.fields.Field.{Field}
use Rattle.script.specs.Field.{body_of, misplaced, unknown, read_of}
use Rattle.script.specs.Reading.{Reading, Placed, field_at, stopped, in_front, ended, bad}
use Rattle.script.proofs.Whole.{Whole, whole, taken-whole, end_is-empty}
use Rattle.script.proofs.Steps.{Reads, field, wrong, end, moved}
use Rattle.script.proofs.Places.{bad_not_ended}

-- ---- a value goes by its own bytes
module _ (v w : List ℕ) (m : ℕ) (same : (i : ℕ) → i < m → get_or v i 0 ≡ get_or w i 0) where
  same16 : (i : ℕ) → i + 1 < m → be16 v i ≡ be16 w i
  same16 i h = rw (same i (omega arith), same (i + 1) h)

  same32 : (i : ℕ) → i + 3 < m → be32 v i ≡ be32 w i
  unfolding be32
  same32 i h = rw (same16 i (omega arith), same16 (i + 2) (omega arith))

  same64 : (i : ℕ) → i + 7 < m → be64 v i ≡ be64 w i
  unfolding be64
  same64 i h = rw (same32 i (omega arith), same32 (i + 4) (omega arith))

  same-lawful : (k : Kind) → length_of k ≤ m → lawful k v ≡ lawful k w
  same-lawful K.Unknown h = refl
  same-lawful K.Rate h = refl
  same-lawful K.Configure h = rw (same 0 (omega arith), same 1 (omega arith), same 2 (omega arith), same 15 (omega arith), same 16 (omega arith))
  same-lawful K.Source h = rw (same 10 (omega arith))
  same-lawful K.Retire h = refl
  same-lawful K.Release h = refl
  same-lawful K.Trigger h = refl
  same-lawful K.Seek h = refl
  same-lawful K.Advance h = refl
  same-lawful K.Frame h = refl
  same-lawful K.NoteInput h = rw (same 0 (omega arith))
  same-lawful K.Reset h = refl
  same-lawful K.Reserve h = refl
  same-lawful K.ReservedTrigger h = refl

  same-field : (k : Kind) → length_of k ≤ m → field_of k v ≡ field_of k w
  same-field K.Unknown h = refl
  same-field K.Rate h = rw (same32 0 (omega arith))
  same-field K.Configure h =
      rw (
        same 0 (omega arith),
        same 1 (omega arith),
        same 2 (omega arith),
        same32 3 (omega arith),
        same32 7 (omega arith),
        same32 11 (omega arith),
        same 15 (omega arith),
        same 16 (omega arith),
        same32 17 (omega arith),
        same32 21 (omega arith),
        same32 25 (omega arith),
        same32 29 (omega arith),
        same32 33 (omega arith),
      )
  same-field K.Source h = rw (same16 0 (omega arith), same32 2 (omega arith), same32 6 (omega arith), same 10 (omega arith))
  same-field K.Retire h = rw (same16 0 (omega arith))
  same-field K.Release h = rw (same16 0 (omega arith))
  same-field K.Trigger h = rw (same16 0 (omega arith))
  same-field K.Seek h = rw (same64 0 (omega arith))
  same-field K.Advance h = rw (same32 0 (omega arith))
  same-field K.Frame h = rw (same32 0 (omega arith), same32 4 (omega arith))
  same-field K.NoteInput h = rw (same 0 (omega arith))
  same-field K.Reset h = refl
  same-field K.Reserve h = refl
  same-field K.ReservedTrigger h = rw (same16 0 (omega arith), same64 2 (omega arith))

-- ---- a field goes by its own bytes
whole_same : (s t : List ℕ) (first : Bool) {f : Field} {k : ℕ} → ((i : ℕ) → i < k → get_or s i 0 ≡ get_or t i 0) → k ≤ length t → Whole s first f k → Whole t first f k
whole_same s t first {f} {k} same fits w =
    let takes = w.takes in
    let tag = same 0 (omega arith) in
    let kind : kind_of (get_or s 0 0) ≡ kind_of (get_or t 0 0) = ap kind_of tag in
    let n = length_of (kind_of (get_or s 0 0)) in
    let inner : (i : ℕ) → i < n → get_or (drop 3 s) i 0 ≡ get_or (drop 3 t) i 0 = λ i h. get_or-drop 3 s i 0 ∙ same (3 + i) (omega arith) ∙ sym (get_or-drop 3 t i 0) in
    record {
      long = omega arith;
      in_place = ap (λ (x : ℕ). misplaced x first) (sym tag) ∙ w.in_place;
      known = ap unknown (sym tag) ∙ w.known;
      said = sym (same16 s t k same 1 (omega arith)) ∙ w.said ∙ ap length_of kind;
      fits = subst (λ (x : Kind). length_of x ≤ length t - 3) kind (omega arith);
      good = ap (λ (x : Kind). lawful x (drop 3 t)) (sym kind) ∙ sym (same-lawful (drop 3 s) (drop 3 t) n inner (kind_of (get_or s 0 0)) (omega arith)) ∙ w.good;
      is = ap (λ (x : Kind). field_of x (drop 3 t)) (sym kind) ∙ sym (same-field (drop 3 s) (drop 3 t) n inner (kind_of (get_or s 0 0)) (omega arith)) ∙ w.is;
      takes = ap (λ (x : Kind). 3 + length_of x) (sym kind) ∙ takes;
    }

module _ (s rest : List ℕ) (first : Bool) where
  all : length (s ++ rest) ≡ length s + length rest
  all = length-append s rest

  byte : (i : ℕ) → i < length s → get_or (s ++ rest) i 0 ≡ get_or s i 0
  byte i h = get_or-append s rest 0 i h

  pub field_longer : {f : Field} {k : ℕ} → read_of s first ≡ Ok (Some (f, k)) → read_of (s ++ rest) first ≡ Ok (Some (f, k))
  field_longer {f} {k} e =
      let w = whole s first e in
      let fits = w.fits in
      let long = w.long in
      let takes = w.takes in
      taken-whole (whole_same s (s ++ rest) first (λ i h. sym (byte i (omega arith))) (omega (arith, all)) w)

  pub field_shorter : {f : Field} {k : ℕ} → read_of (s ++ rest) first ≡ Ok (Some (f, k)) → k ≤ length s → read_of s first ≡ Ok (Some (f, k))
  field_shorter e h = taken-whole (whole_same (s ++ rest) s first (λ i l. byte i (omega arith)) h (whole (s ++ rest) first e))

  -- ---- bytes that are missing
  pub field_cut : {f : Field} {k : ℕ} → read_of (s ++ rest) first ≡ Ok (Some (f, k)) → 0 < length s → length s < k → (read_of s first ≡ Err HeaderCut) ⊎ (read_of s first ≡ Err ValueCut)
  unfolding read_of body_of
  field_cut {f} {k} e some h =
      by-case (ltb (length s) 3)
      (λ y. inl (rw (ne_eqb (length s) 0 (λ z. omega arith), y)))
      (λ y.
      let long = ltb-false (length s) 3 y in
      let w = whole (s ++ rest) first e in
      let takes = w.takes in
      let tag = byte 0 (omega arith) in
      let in_place : misplaced (get_or s 0 0) first ≡ false = ap (λ (x : ℕ). misplaced x first) (sym tag) ∙ w.in_place in
      let known : unknown (get_or s 0 0) ≡ false = ap unknown (sym tag) ∙ w.known in
      let n : length_of (kind_of (get_or s 0 0)) ≡ length_of (kind_of (get_or (s ++ rest) 0 0)) = ap (λ (x : ℕ). length_of (kind_of x)) (sym tag) in
      let said : be16 s 1 ≡ length_of (kind_of (get_or s 0 0)) = sym (same16 (s ++ rest) s (length s) byte 1 (omega arith)) ∙ w.said ∙ sym n in
      inr (rw (ne_eqb (length s) 0 (λ z. omega arith), y, in_place, known, eq-eqb _ _ said, lt-leb (length_of (kind_of (get_or s 0 0))) (length s - 3) (omega arith))))

  -- ---- bytes that are wrong
  pub bad_longer : {c : Refusal} → read_of s first ≡ Err c → 0 < length s → (c ≡ HeaderCut → ⊥) → (c ≡ ValueCut → ⊥) → read_of (s ++ rest) first ≡ Err c
  unfolding read_of body_of
  bad_longer {c} e some not-14 not_16 =
      let some-here = ne_eqb (length s) 0 (λ z. omega arith) in
      let some-all = ne_eqb (length (s ++ rest)) 0 (λ z. omega (arith, all)) in
      by-case (ltb (length s) 3)
      (λ y. let w : (Err HeaderCut) ≡ (Err c) = rw (some-here, y) at e in absurd (not-14 cc))
      (λ y.
      let long = ltb-false (length s) 3 y in
      let long-all = le-ltb (length (s ++ rest)) 3 (omega (arith, all)) in
      let tag = byte 0 (omega arith) in
      let said = same16 (s ++ rest) s (length s) byte 1 (omega arith) in
      let k = kind_of (get_or s 0 0) in
      by-case (misplaced (get_or s 0 0) first)
      (λ p. rw (some-all, long-all, tag, p) (rw (some-here, y, p) at e))
      (λ p. by-case (unknown (get_or s 0 0))
      (λ u. rw (some-all, long-all, tag, p, u) (rw (some-here, y, p, u) at e))
      (λ u. by-case (eqb (be16 s 1) (length_of k))
      (λ l. by-case (leb (length_of k) (length s - 3))
      (λ h.
      let fits = leb-true (length_of k) (length s - 3) h in
      let fits_all = le-leb (length_of k) (length (s ++ rest) - 3) (omega (arith, all)) in
      let inner : (i : ℕ) → i < length_of k → get_or (drop 3 (s ++ rest)) i 0 ≡ get_or (drop 3 s) i 0 = λ i b. get_or-drop 3 (s ++ rest) i 0 ∙ byte (3 + i) (omega arith) ∙ sym (get_or-drop 3 s i 0) in
      let good = same-lawful (drop 3 (s ++ rest)) (drop 3 s) (length_of k) inner k (omega arith) in
      let is = same-field (drop 3 (s ++ rest)) (drop 3 s) (length_of k) inner k (omega arith) in
      rw (some-all, long-all, tag, p, u, said, l, fits_all, good, is) (rw (some-here, y, p, u, l, h) at e))
      (λ h. let w : (Err ValueCut) ≡ (Err c) = rw (some-here, y, p, u, l, h) at e in absurd (not_16 cc)))
      (λ l. rw (some-all, long-all, tag, p, u, said, l) (rw (some-here, y, p, u, l) at e)))))

-- ---- where no byte is left
nothing_left : (n : ℕ) (s : List ℕ) → length s ≡ 0 → (eqb n 1 ≡ true → 0 < length s) → read_of s (eqb n 1) ≡ Ok None
unfolding read_of
nothing_left n s h some = by-case (eqb n 1) (λ y. let l = some y in absurd (omega arith)) (λ y. rw (eq-eqb _ _ h, y))

-- ---- a whole script
-- that goes bad for wrong bytes: it is read the same whatever follows
pub wrong_longer : {n at : ℕ} {s : List ℕ} {r : Reading} → Reads n at s r → 1 ≤ n → (eqb n 1 ≡ true → 0 < length s) → (c : Refusal) → r.verdict ≡ bad c → (c ≡ HeaderCut → ⊥) → (c ≡ ValueCut → ⊥)
    → (rest : List ℕ) → Reads n at (s ++ rest) r
wrong_longer {n} {at} {s} (field {k = k} e lo hi d) pos some c v not-14 not_16 rest =
    field (field_longer s rest (eqb n 1) e) lo (omega (arith, length-append s rest))
    (moved refl refl (sym (drop-append-le k s rest hi)) (wrong_longer d (omega arith) (λ y. let one : n + 1 ≡ 1 = eqb-true (n + 1) 1 y in absurd (omega arith)) c v not-14 not_16 rest))
wrong_longer {n} {at} {s} (wrong {c = b} e) pos some c v not-14 not_16 rest =
    let same : b ≡ c = cc in
    by-case (eqb (length s) 0)
    (λ y. let w : (Ok None) ≡ (Err b) = sym (nothing_left n s (eqb-true _ _ y) some) ∙ e in absurd (let q : ◌≡◌ {A = ℕ} 0 1 = cc in omega arith))
    (λ y. let none : length s ≡ 0 → ⊥ = eqb-false (length s) 0 y in wrong (bad_longer s rest (eqb n 1) e (omega arith) (λ q. not-14 (sym same ∙ q)) (λ q. not_16 (sym same ∙ q))))
wrong_longer (end e) pos some c v not-14 not_16 rest = bad_not_ended (sym v)

-- the beginning of one that is read to its end: its fields are the first of the whole, and it ends between two fields or within one
pub record Begins (n at : ℕ) (s : List ℕ) (whole : Reading) : Type 0 where
  pub reading : Reading
  pub reads : Reads n at s reading
  pub kept : List Placed
  pub fields : reading.fields ++ kept ≡ whole.fields
  pub ends : (reading.verdict ≡ ended) ⊎ (reading.verdict ≡ bad HeaderCut) ⊎ (reading.verdict ≡ bad ValueCut)

pub beginning : {n at : ℕ} {t : List ℕ} {q : Reading} → Reads n at t q → (s rest : List ℕ) → t ≡ s ++ rest → q.verdict ≡ ended → 1 ≤ n → (eqb n 1 ≡ true → 0 < length s) → Begins n at s q
beginning {n} {at} (field {f = f} {k = k} {r = q} e lo hi d) s rest is v pos some =
    by-case (leb k (length s))
    (λ y.
    let fits = leb-true _ _ y in
    let b = beginning d (drop k s) rest (ap (drop k) is ∙ drop-append-le k s rest fits) v (omega arith) (λ z. let one : n + 1 ≡ 1 = eqb-true (n + 1) 1 z in absurd (omega arith)) in
    record {
      reading = in_front (field_at at k f) b.reading;
      reads = field (field_shorter s rest (eqb n 1) (rw is at e) fits) lo fits b.reads;
      kept = b.kept;
      fields = ap {B = List Placed} (λ (ps : List Placed). field_at at k f ∷ ps) b.fields;
      ends = b.ends;
    })
    (λ y.
    let short = leb-false _ _ y in
    by-case (eqb (length s) 0)
    (λ z. record { reading = stopped at ended; reads = end (nothing_left n s (eqb-true _ _ z) some); kept = field_at at k f ∷ q.fields; fields = refl; ends = inl refl })
    (λ z. let l : length s ≡ 0 → ⊥ = eqb-false (length s) 0 z in cut_here (field_cut s rest (eqb n 1) (rw is at e) (omega arith) short)))
  where
    cut_here : (read_of s (eqb n 1) ≡ Err HeaderCut) ⊎ (read_of s (eqb n 1) ≡ Err ValueCut) → Begins n at s (in_front (field_at at k f) q)
    cut_here (inl h) = record { reading = stopped at (bad HeaderCut); reads = wrong h; kept = field_at at k f ∷ q.fields; fields = refl; ends = inr (inl refl) }
    cut_here (inr h) = record { reading = stopped at (bad ValueCut); reads = wrong h; kept = field_at at k f ∷ q.fields; fields = refl; ends = inr (inr refl) }
beginning (wrong e) s rest is v pos some = bad_not_ended v
beginning {n} {at} {t} (end e) s rest is v pos some =
    let none : length t ≡ 0 = end_is-empty t (eqb n 1) e in
    let empty : length s ≡ 0 = omega (arith, ap length is, length-append s rest) in
    record { reading = stopped at ended; reads = end (nothing_left n s empty some); kept = []; fields = refl; ends = inl refl }
