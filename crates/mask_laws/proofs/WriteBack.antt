-- A record that was read is written back entry by entry as the same bytes.
use Rattle.std.specs.Prelude.{Some, None, Ok, Err}
use Prim.Native.Nat.{ℕ, ◌+◌, ◌*◌, ◌/◌, ◌%◌, ◌≤◌, ◌<◌}
use native.Mathlib.Omega.{arith}
use mathlib.Core.Path.{◌≡◌, refl, sym, ap, ◌∙◌, subst}
use mathlib.Core.Bool.{Bool, true, false, ◌&&◌, false≢true}
use mathlib.Core.List.{List, ◌∷◌, ◌++◌}
use borrow.Author.Tests.{eqb-true, eqb-false, leb-true}
use lib.Dec.{T, eqb, leb, eqb→eq, leb→le}
use lib.Ieee.Fits.{and_l, and_r}
use lib.ListN.{length, get_or, take, drop, length-drop}
use lib.Seq.{ext_get_or, length-take-le, get_or-take, get_or-drop, take-add, take_at}
use Rattle.sequences.specs.All.{all}
use Rattle.sequences.specs.Pick.{pick, by-case, went_left, went_right}
use Rattle.sequences.specs.Every.{Every, every_get_or}
use Rattle.sequences.specs.Table.{table, table_at, length_table}
use Rattle.big_endian.specs.Numbers.{be16, be64}
use Rattle.big_endian.specs.Bytes.{bytes16, bytes64}
use Rattle.script_writer_laws.specs.Events.{Byte}
use Rattle.script_writer_laws.proofs.Spelled.{behind, byte_again, bytes16_again, bytes64_again}
use Rattle.mask_records.specs.Decibels.{is_entry}
use Rattle.refusals.specs.declared.Refusal.TheVariants.{Room, Record}
use Rattle.mask_records.specs.declared.Found.{Found}
use Rattle.mask_records.specs.Found.{Read, count_in, entry_in, headed, record_read, found}
use Rattle.mask_records.specs.Bytes.{head_of, pairs_of, record_of}
use Rattle.mask_records.specs.Placed.{record_size}
use Rattle.mask_records.proofs.Pairs.{pairs_length, pairs_high, pairs_low, record_parts}

module _ (s : List ℕ) (bytes : Every Byte s) where
  -- ---- the head
  abbrev spelled : ℕ → ℕ → ℕ → ℕ → List ℕ
  spelled t l u k = t ∷ bytes16 l ++ bytes64 (be64 s 3) ++ bytes16 (be16 s 11) ++ u ∷ bytes16 k

  own : record_size 0 ≤ length s → spelled (get_or s 0 0) (be16 s 1) (get_or s 13 0) (be16 s 14) ≡ take 16 s
  own h =
      behind s bytes 14 2 0
      (behind s bytes 13 1 0
      (behind s bytes 11 2 0
      (behind s bytes 3 8 0
      (behind s bytes 1 2 0 (byte_again s bytes 0 (omega arith)) (bytes16_again s bytes 1 (omega arith)))
      (bytes64_again s bytes 3 (omega arith)))
      (bytes16_again s bytes 11 (omega arith)))
      (byte_again s bytes 13 (omega arith)))
      (bytes16_again s bytes 14 (omega arith))

  pub head_bytes : headed s ≡ true → head_of (be64 s 3) (count_in s) ≡ take 16 s
  unfolding headed head_of
  head_bytes e =
      let n = count_in s in
      let t1 : Bool = eqb (get_or s 0 0) 32 in
      let t2 : Bool = eqb (be16 s 1) 10 in
      let t3 : Bool = leb 1 n && leb n 8193 in
      let t4 : Bool = eqb (get_or s 13 0) 33 in
      let t5 : Bool = eqb (be16 s 14) (2 * n) in
      let t6 : Bool = leb (record_size n) (length s) in
      let t : T ((t1 && t2) && (t3 && ((t4 && t5) && t6))) = subst T (sym e) tt in
      let u : T ((t4 && t5) && t6) = and_r t3 ((t4 && t5) && t6) (and_r (t1 && t2) (t3 && ((t4 && t5) && t6)) t) in
      let a : get_or s 0 0 ≡ 32 = eqb→eq _ _ (and_l t1 t2 (and_l (t1 && t2) (t3 && ((t4 && t5) && t6)) t)) in
      let c : be16 s 1 ≡ 10 = eqb→eq _ _ (and_r t1 t2 (and_l (t1 && t2) (t3 && ((t4 && t5) && t6)) t)) in
      let d : get_or s 13 0 ≡ 33 = eqb→eq _ _ (and_l t4 t5 (and_l (t4 && t5) t6 u)) in
      let f : be16 s 14 ≡ 2 * n = eqb→eq _ _ (and_r t4 t5 (and_l (t4 && t5) t6 u)) in
      let g : record_size n ≤ length s = leb→le _ _ (and_r (t4 && t5) t6 u) in
      ap (λ (x : ℕ). spelled x 10 33 (2 * n)) (sym a)
      ∙ ap (λ (x : ℕ). spelled (get_or s 0 0) x 33 (2 * n)) (sym c)
      ∙ ap (λ (x : ℕ). spelled (get_or s 0 0) (be16 s 1) x (2 * n)) (sym d)
      ∙ ap (λ (x : ℕ). spelled (get_or s 0 0) (be16 s 1) (get_or s 13 0) x) (sym f)
      ∙ own (omega arith)

  -- ---- the entries
  module _ (n : ℕ) (room : record_size n ≤ length s) where
    abbrev es : List ℕ
    es = table n (entry_in s)

    es_long : length es ≡ n
    es_long = length_table n (entry_in s)

    pairs_long : length (pairs_of es) ≡ 2 * n
    pairs_long = pairs_length es ∙ ap (λ (k : ℕ). 2 * k) es_long

    rest-long : length (take (2 * n) (drop 16 s)) ≡ 2 * n
    rest-long = length-take-le (2 * n) (drop 16 s) (omega (arith, length-drop 16 s))

    small : (i : ℕ) → get_or s i 0 < 256
    small i = every_get_or Byte s i 0 (omega arith) bytes

    at_high : (i : ℕ) → i < n → get_or (pairs_of es) (2 * i) 0 ≡ get_or s (16 + 2 * i) 0
    at_high i h =
        pairs_high es i ∙ ap (λ (x : ℕ). x / 256) (table_at n (entry_in s) i 0 h) ∙ (let e : entry_in s i / 256 ≡ get_or s (16 + 2 * i) 0 = omega (arith, small (16 + 2 * i + 1)) in e)

    at_low : (i : ℕ) → i < n → get_or (pairs_of es) (2 * i + 1) 0 ≡ get_or s (16 + (2 * i + 1)) 0
    at_low i h =
        pairs_low es i
        ∙ ap (λ (x : ℕ). x % 256) (table_at n (entry_in s) i 0 h)
        ∙ (let e : entry_in s i % 256 ≡ get_or s (16 + 2 * i + 1) 0 = omega (arith, small (16 + 2 * i + 1)) in e)
        ∙ ap (λ (k : ℕ). get_or s k 0) (let k : 16 + 2 * i + 1 ≡ 16 + (2 * i + 1) = omega arith in k)

    byte-back : (j : ℕ) → j < 2 * n → get_or (pairs_of es) j 0 ≡ get_or s (16 + j) 0
    byte-back j h =
        by-case (eqb (j % 2) 0)
        (λ y. let k : 2 * (j / 2) ≡ j = omega (arith, eqb-true (j % 2) 0 y) in subst (λ (m : ℕ). get_or (pairs_of es) m 0 ≡ get_or s (16 + m) 0) k (at_high (j / 2) (omega arith)))
        (λ z. let w : j % 2 ≡ 0 → ⊥ = eqb-false (j % 2) 0 z in
        let k : 2 * (j / 2) + 1 ≡ j = odd j w in subst (λ (m : ℕ). get_or (pairs_of es) m 0 ≡ get_or s (16 + m) 0) k (at_low (j / 2) (omega arith)))
      where
        odd : (m : ℕ) → (m % 2 ≡ 0 → ⊥) → 2 * (m / 2) + 1 ≡ m
        odd m w = omega arith

    pub pairs_back : pairs_of es ≡ take (2 * n) (drop 16 s)
    pairs_back =
        ext_get_or 0 (pairs_of es) (take (2 * n) (drop 16 s)) (pairs_long ∙ sym rest-long)
        (λ j l. let k : j < 2 * n = omega (arith, pairs_long) in byte-back j k ∙ sym (get_or-take (2 * n) (drop 16 s) j 0 k ∙ get_or-drop 16 s j 0))

    pub bytes_back : headed s ≡ true → n ≡ count_in s → record_of (be64 s 3) es ≡ take (record_size n) s
    bytes_back e c =
        record_parts (be64 s 3) es
        ∙ ap (λ (h : List ℕ). h ++ pairs_of es) (ap (head_of (be64 s 3)) (es_long ∙ c) ∙ head_bytes e)
        ∙ ap (λ (w : List ℕ). take 16 s ++ w) pairs_back
        ∙ sym (take-add 16 (2 * n) s)

-- ---- what an answer other than a refusal says
abbrev Handed : Type 0
Handed = Read × List ℕ

is_found : Read → Bool
is_found (Ok None) = false
is_found (Ok (Some f)) = true
is_found (Err r) = false

abbrev IsFound : Handed → Type 0
IsFound x = is_found x.0 ≡ true

pub record FoundIn (s lent : List ℕ) (v n k : ℕ) : Type 0 where
  pub head : headed s ≡ true
  pub known : all (λ i. is_entry (entry_in s i)) (count_in s) ≡ true
  pub room : count_in s ≤ length lent
  pub sample : v ≡ be64 s 3
  pub count : n ≡ count_in s
  pub taken : k ≡ record_size (count_in s)
  pub lent_is : (record_read s lent).1 ≡ table (count_in s) (entry_in s) ++ drop (count_in s) lent

-- what was found, where anything was
abbrev got : Found → Read → Found
got d (Ok (Some f)) = f
got d (Ok None) = d
got d (Err r) = d

same-found : (v n k a b c : ℕ) → ◌≡◌ {A = Read} (Ok (Some (found a b c))) (Ok (Some (found v n k))) → (v ≡ a) × (n ≡ b) × (k ≡ c)
same-found v n k a b c e =
    let f : found v n k ≡ found a b c = ap (got (found v n k)) (sym e) in
    (ap (λ (x : Found). x.sample) f, ap (λ (x : Found). x.count) f, ap (λ (x : Found). x.size) f)

pub found_in : (s lent : List ℕ) (v n k : ℕ) → (record_read s lent).0 ≡ Ok (Some (found v n k)) → FoundIn s lent v n k
unfolding record_read is_found
found_in s lent v n k q =
    let c = count_in s in
    let done : Handed = (Ok (Some (found (be64 s 3) c (record_size c))), table c (entry_in s) ++ drop c lent) in
    let x4 : Handed = pick (leb c (length lent)) done (Err Room, lent) in
    let x3 : Handed = pick (all (λ i. is_entry (entry_in s i)) c) x4 (Err Record, lent) in
    let x2 : Handed = pick (headed s) x3 (Err Record, lent) in
    let e1 : is_found (record_read s lent).0 ≡ true = ap is_found q in
    let a1 = went_right IsFound (Ok None, lent) x2 (eqb (length s) 0) false≢true e1 in
    let e2 : is_found x2.0 ≡ true = ap (λ (x : Handed). is_found x.0) (sym a1.1) ∙ e1 in
    let a2 = went_left IsFound x3 (Err Record, lent) (headed s) false≢true e2 in
    let e3 : is_found x3.0 ≡ true = ap (λ (x : Handed). is_found x.0) (sym a2.1) ∙ e2 in
    let a3 = went_left IsFound x4 (Err Record, lent) (all (λ i. is_entry (entry_in s i)) c) false≢true e3 in
    let e4 : is_found x4.0 ≡ true = ap (λ (x : Handed). is_found x.0) (sym a3.1) ∙ e3 in
    let a4 = went_left IsFound done (Err Room, lent) (leb c (length lent)) false≢true e4 in
    let is : record_read s lent ≡ done = a1.1 ∙ a2.1 ∙ a3.1 ∙ a4.1 in
    let g = same-found v n k (be64 s 3) c (record_size c) (ap (λ (x : Handed). x.0) (sym is) ∙ q) in
    record {
      head = a2.0;
      known = a3.0;
      room = leb-true c (length lent) a4.0;
      sample = g.0;
      count = g.1;
      taken = g.2;
      lent_is = ap (λ (x : Handed). x.1) is;
    }

head-room : (s : List ℕ) → headed s ≡ true → record_size (count_in s) ≤ length s
unfolding headed
head-room s e =
    let n = count_in s in
    let t1 : Bool = eqb (get_or s 0 0) 32 && eqb (be16 s 1) 10 in
    let t3 : Bool = leb 1 n && leb n 8193 in
    let t4 : Bool = eqb (get_or s 13 0) 33 && eqb (be16 s 14) (2 * n) in
    let t6 : Bool = leb (record_size n) (length s) in
    leb→le _ _ (and_r t4 t6 (and_r t3 (t4 && t6) (and_r t1 (t3 && (t4 && t6)) (subst T (sym e) tt))))

-- read, and written entry by entry: the same bytes
pub written_again : (s : List ℕ) → Every Byte s → (lent : List ℕ) (v n k : ℕ) → (record_read s lent).0 ≡ Ok (Some (found v n k)) → record_of v (take n (record_read s lent).1) ≡ take k s
written_again s b lent v n k q =
    let f = found_in s lent v n k q in
    let c = count_in s in
    let front : take n (record_read s lent).1 ≡ table c (entry_in s) =
    ap (λ (m : ℕ). take m (record_read s lent).1) f.count ∙ ap (take c) f.lent_is ∙ take_at (table c (entry_in s)) (drop c lent) c (length_table c (entry_in s)) in
    ap (record_of v) front
    ∙ ap (λ (x : ℕ). record_of x (table c (entry_in s))) f.sample
    ∙ bytes_back s b c (head-room s f.head) f.head refl
    ∙ ap (λ (m : ℕ). take m s) (sym f.taken)
