-- The ways through `read_record`.
use Rattle.std.specs.Prelude.{Some, None, Ok, Err}
use Prim.Native.Nat.{ℕ, ◌*◌, ◌≤◌, ◌<◌}
use mathlib.Core.Path.{◌≡◌, refl, sym, ap, ◌∙◌, subst}
use mathlib.Core.Bool.{Bool, true, false, ◌&&◌}
use mathlib.Core.List.{List, ◌++◌}
use borrow.Author.Tests.{eq-eqb, ne_eqb, le-leb, lt-leb}
use lib.Dec.{T, eqb, leb, leb→le}
use lib.ListN.{length, get_or, take, drop}
use lib.Seq.{length-take-le}
use lib.Ieee.Fits.{and_l, and_r}
use Rattle.sequences.specs.All.{all}
use Rattle.sequences.specs.Pick.{pick, took, skipped}
use Rattle.sequences.specs.Table.{table}
use Rattle.big_endian.specs.Numbers.{be16, be64}
use Rattle.mask_records.specs.Decibels.{is_entry}
use Rattle.refusals.specs.declared.Refusal.TheVariants.{Room, Record}
use Rattle.mask_records.specs.Found.{Read, count_in, entry_in, headed, record_read, found}
use Rattle.mask_records.specs.Placed.{record_size}

-- a head has at most 8,193 bins
pub count_most : (s : List ℕ) → headed s ≡ true → count_in s ≤ 8193
unfolding headed
count_most s e =
    let n = count_in s in
    let a : Bool = eqb (get_or s 0 0) 32 && eqb (be16 s 1) 10 in
    let b : Bool = leb 1 n && leb n 8193 in
    let d : Bool = (eqb (get_or s 13 0) 33 && eqb (be16 s 14) (2 * n)) && leb (record_size n) (length s) in
    leb→le n 8193 (and_r (leb 1 n) (leb n 8193) (and_l b d (and_r a (b && d) (subst T (sym e) tt))))

module _ (s lent : List ℕ) where
  abbrev with_count : ℕ → Read × List ℕ
  with_count n =
      pick (all (λ i. is_entry (entry_in s i)) n) (pick (leb n (length lent)) (Ok (Some (found (be64 s 3) n (record_size n))), table n (entry_in s) ++ drop n lent) (Err Room, lent)) (Err Record, lent)

  pub at_end : length s ≡ 0 → (Ok None, lent) ≡ record_read s lent
  unfolding record_read
  at_end h = took _ _ _ _ (eq-eqb _ _ h) refl

  pub no_head : (length s ≡ 0 → ⊥) → headed s ≡ false → (Err Record, lent) ≡ record_read s lent
  unfolding record_read
  no_head h e = skipped _ _ _ _ (ne_eqb _ _ h) (skipped _ _ _ _ e refl)

  module _ (h : length s ≡ 0 → ⊥) (e : headed s ≡ true) (n : ℕ) (c : n ≡ count_in s) where
    counted : (x : Read × List ℕ) → x ≡ with_count n → x ≡ record_read s lent
    unfolding record_read
    counted x p = skipped _ _ _ _ (ne_eqb _ _ h) (took _ _ _ _ e (p ∙ ap with_count c))

    pub unknown-entry : all (λ i. is_entry (entry_in s i)) n ≡ false → (Err Record, lent) ≡ record_read s lent
    unknown-entry a = counted (Err Record, lent) (skipped _ _ _ _ a refl)

    pub no_places : all (λ i. is_entry (entry_in s i)) n ≡ true → length lent < n → (Err Room, lent) ≡ record_read s lent
    no_places a l = counted (Err Room, lent) (took _ _ _ _ a (skipped _ _ _ _ (lt-leb _ _ l) refl))

    pub read_found : all (λ i. is_entry (entry_in s i)) n ≡ true → n ≤ length lent → (v : ℕ) (ys : List ℕ) → v ≡ be64 s 3 → ys ≡ table (length (take n lent)) (entry_in s) → (Ok (Some (found v n (record_size n))), ys ++ drop n lent) ≡ record_read s lent
    read_found a l v ys p q =
        counted (Ok (Some (found v n (record_size n))), ys ++ drop n lent)
        (took _ _ _ _ a (took _ _ _ _ (le-leb _ _ l) (rw (p, q, length-take-le n lent l))))
