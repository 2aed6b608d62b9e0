-- A record that was written is read back: sample, count and entries, whatever stands after it.
use Rattle.std.specs.Prelude.{Some, Ok, Err}
use Prim.Native.Nat.{ℕ, ◌+◌, ◌*◌, ◌/◌, ◌%◌, ◌≤◌, ◌<◌}
use native.Mathlib.Nat.{div-add-mod'}
use native.Mathlib.Omega.{arith}
use mathlib.Core.Path.{◌≡◌, refl, sym, ap, ◌∙◌}
use mathlib.Core.Bool.{true}
use mathlib.Core.List.{List, ◌++◌, append_assoc}
use borrow.Author.Tests.{eq-eqb, ne_eqb, le-leb}
use lib.Dec.{leb}
use lib.ListN.{length, get_or, drop, length-append, get_or-append}
use lib.Seq.{get_or-append-add}
use Rattle.sequences.specs.All.{all_true}
use Rattle.sequences.specs.Pick.{pick, picked, passed}
use Rattle.sequences.specs.Table.{table, table_same, table-own}
use Rattle.big_endian.specs.Numbers.{be16, be32, be64}
use Rattle.mask_records.specs.Decibels.{is_entry}
use Rattle.refusals.specs.declared.Refusal.TheVariants.{Room}
use Rattle.mask_records.specs.Bytes.{head_of, pairs_of, record_of}
use Rattle.mask_records.specs.Placed.{record_size}
use Rattle.mask_records.specs.Found.{count_in, entry_in, headed, record_read, found}
use Rattle.mask_records.proofs.Pairs.{pairs_length, pairs_high, pairs_low, head_length, record_parts, record_length}

module _ (sample : ℕ) (es rest : List ℕ) where
  abbrev s : List ℕ
  s = record_of sample es ++ rest

  -- ---- the head
  count-back : count_in s ≡ length es
  unfolding record_of
  count-back = omega arith

  sample_back : be64 s 3 ≡ sample
  unfolding record_of be64 be32
  sample_back = omega arith

  first_tag : get_or s 0 0 ≡ 32
  unfolding record_of
  first_tag = refl

  first_length : be16 s 1 ≡ 10
  unfolding record_of
  first_length = refl

  second_tag : get_or s 13 0 ≡ 33
  unfolding record_of
  second_tag = refl

  second_length : be16 s 14 ≡ 2 * length es
  unfolding record_of
  second_length = omega (arith, pairs_length es)

  size : length s ≡ record_size (length es) + length rest
  size = length-append (record_of sample es) rest ∙ ap (λ (k : ℕ). k + length rest) (record_length sample es)

  -- ---- the entries
  after-head : s ≡ head_of sample (length es) ++ (pairs_of es ++ rest)
  after-head = ap (λ (l : List ℕ). l ++ rest) (record_parts sample es) ∙ append_assoc (head_of sample (length es)) (pairs_of es) rest

  byte_at : (k : ℕ) → k < 2 * length es → get_or s (16 + k) 0 ≡ get_or (pairs_of es) k 0
  byte_at k h =
      ap (λ (l : List ℕ). get_or l (16 + k) 0) after-head
      ∙ ap (λ (j : ℕ). get_or (head_of sample (length es) ++ (pairs_of es ++ rest)) (j + k) 0) (sym (head_length sample (length es)))
      ∙ get_or-append-add (head_of sample (length es)) (pairs_of es ++ rest) k 0
      ∙ get_or-append (pairs_of es) rest 0 k (omega (arith, pairs_length es))

  pub entry-back : (i : ℕ) → i < length es → entry_in s i ≡ get_or es i 0
  entry-back i h =
      let a : get_or s (16 + 2 * i) 0 ≡ get_or es i 0 / 256 = byte_at (2 * i) (omega arith) ∙ pairs_high es i in
      let j : 16 + 2 * i + 1 ≡ 16 + (2 * i + 1) = omega arith in
      let b : get_or s (16 + 2 * i + 1) 0 ≡ get_or es i 0 % 256 = ap (λ (k : ℕ). get_or s k 0) j ∙ byte_at (2 * i + 1) (omega arith) ∙ pairs_low es i in
      rw (a, b) (div-add-mod' (get_or es i 0) 256)

  pub entries-back : table (length es) (entry_in s) ≡ es
  entries-back = table_same (entry_in s) (λ i. get_or es i 0) (length es) entry-back ∙ table-own es 0

  -- ---- the record
  module _ (lo : 1 ≤ length es) (hi : length es ≤ 8193) where
    pub head-back : headed s ≡ true
    unfolding headed
    head-back =
        rw (eq-eqb _ _ first_tag, eq-eqb _ _ first_length, eq-eqb _ _ second_tag, count-back, eq-eqb _ _ second_length, le-leb _ _ lo, le-leb _ _ hi, le-leb (record_size (length es)) (length s) (omega (arith, size)))

    module _ (known : (i : ℕ) → i < length es → is_entry (get_or es i 0) ≡ true) (lent : List ℕ) where
      -- written and read back: the same sample, count and entries; 13 where the lent slice has fewer places
      pub read_back : record_read s lent ≡ pick (leb (length es) (length lent)) (Ok (Some (found sample (length es) (record_size (length es)))), es ++ drop (length es) lent) (Err Room, lent)
      unfolding record_read
      read_back =
          sym (passed _ _ _ (ne_eqb (length s) 0 (λ z. omega (arith, size))))
          ∙ sym (picked _ _ _ head-back)
          ∙ rw (count-back, sample_back, entries-back)
          (sym (picked _ _ _ (all_true (λ i. is_entry (entry_in s i)) (length es) (λ k l. ap is_entry (entry-back k l) ∙ known k l))))
