-- The numbers of a list of bytes, written again, are its bytes.
use Prim.Native.Nat.{ℕ, ◌+◌, ◌*◌, ◌/◌, ◌%◌, ◌≤◌, ◌<◌}
use mathlib.Core.Path.{◌≡◌, refl, sym, ap, ◌∙◌}
use mathlib.Core.Bool.{true, false, not}
use mathlib.Core.List.{List, [], ◌∷◌, ◌++◌}
use native.Mathlib.Omega.{arith}
use lib.Dec.{T, eqb}
use lib.ListN.{length, get_or, take, drop}
use lib.Seq.{drop-cons, take-add, drop-drop}
use lib.Ieee.{Format, binary32, binary64, to_bits, of_bits, nan_bits, is_nan, top}
use lib.Ieee.Bits.{to_bits-of_bits, nan_bits_is}
use borrow.Author.Tests.{le-leb, leb-true, eqb-true, eqb-false}
use Rattle.sequences.specs.Every.{Every, every_get_or}
use Rattle.sequences.specs.Pick.{by-case}
use Rattle.big_endian.specs.Numbers.{be16, be32, be64, f32_at, f64_at, flag_at, up_to}
use Rattle.settings.specs.ByNumber.{shape_from, direction_from}
use Rattle.big_endian.specs.Bytes.{bytes16, bytes32, bytes64, single, double, flag}
use Rattle.script_writer.specs.Kinds.{shape_byte, direction_byte}
use Rattle.script_writer.specs.Encoded.{held32}
use Rattle.script_writer_laws.specs.Events.{OneNan, Nan32, Nan64, Byte}

-- ---- a float's bits and back
module _ (f : Format) (pattern n : ℕ) (small : n < 2 * top f) (canon : OneNan f pattern n) (own : to_bits f (of_bits f pattern) ≡ pattern) where
  no_nan : nan_bits f n ≡ false → T (not (is_nan (of_bits f n)))
  no_nan e = rw (← nan_bits_is f n, e) tt

  pub bits_back : to_bits f (of_bits f n) ≡ n
  bits_back = by-case (nan_bits f n) (λ y. let p = canon y in rw p own) (λ y. to_bits-of_bits f n small (no_nan y))

own32 : to_bits binary32 (of_bits binary32 0x7fc00000) ≡ 0x7fc00000
unfolding to_bits of_bits
own32 = refl

own64 : to_bits binary64 (of_bits binary64 0x7ff8000000000000) ≡ 0x7ff8000000000000
unfolding to_bits of_bits
own64 = refl

module _ (v : List ℕ) (bytes : Every Byte v) where
  small : (i : ℕ) → get_or v i 0 < 256
  small i = every_get_or Byte v i 0 (omega arith) bytes

  -- n bytes from a place, and m behind them
  pub behind : {w u : List ℕ} (n m i : ℕ) → w ≡ take n (drop i v) → u ≡ take m (drop (i + n) v) → w ++ u ≡ take (n + m) (drop i v)
  behind n m i p q = rw (p, q, take-add n m (drop i v), drop-drop n i v)

  pub byte_again : (i : ℕ) → i < length v → get_or v i 0 ∷ [] ≡ take 1 (drop i v)
  byte_again i h = rw (drop-cons v i 0 h)

  two_bytes_again : (i : ℕ) → i + 2 ≤ length v → get_or v i 0 ∷ get_or v (i + 1) 0 ∷ [] ≡ take 2 (drop i v)
  two_bytes_again i h = behind 1 1 i (byte_again i (omega arith)) (byte_again (i + 1) (omega arith))

  low : (i : ℕ) → be16 v i < 65536
  low i = omega (arith, small i, small (i + 1))

  pub bytes16_again : (i : ℕ) → i + 2 ≤ length v → bytes16 (be16 v i) ≡ take 2 (drop i v)
  bytes16_again i h =
      let p : be16 v i / 256 ≡ get_or v i 0 = omega (arith, small (i + 1)) in
      let q : be16 v i % 256 ≡ get_or v (i + 1) 0 = omega (arith, small (i + 1)) in
      rw (p, q) (two_bytes_again i h)

  pub below32 : (i : ℕ) → be32 v i < 4294967296
  unfolding be32
  below32 i = omega (arith, low i, low (i + 2))

  pub bytes32_again : (i : ℕ) → i + 4 ≤ length v → bytes32 (be32 v i) ≡ take 4 (drop i v)
  unfolding be32
  bytes32_again i h =
      let p : be32 v i / 65536 ≡ be16 v i = omega (arith, low (i + 2)) in
      let q : be32 v i % 65536 ≡ be16 v (i + 2) = omega (arith, low (i + 2)) in
      ap (λ (n : ℕ). bytes16 n ++ bytes16 (be32 v i % 65536)) p
      ∙ ap (λ (n : ℕ). bytes16 (be16 v i) ++ bytes16 n) q
      ∙ behind 2 2 i (bytes16_again i (omega arith)) (bytes16_again (i + 2) (omega arith))

  below64 : (i : ℕ) → be64 v i < 18446744073709551616
  unfolding be64
  below64 i = omega (arith, below32 i, below32 (i + 4))

  pub bytes64_again : (i : ℕ) → i + 8 ≤ length v → bytes64 (be64 v i) ≡ take 8 (drop i v)
  unfolding be64
  bytes64_again i h =
      let p : be64 v i / 4294967296 ≡ be32 v i = omega (arith, below32 (i + 4)) in
      let q : be64 v i % 4294967296 ≡ be32 v (i + 4) = omega (arith, below32 (i + 4)) in
      ap (λ (n : ℕ). bytes32 n ++ bytes32 (be64 v i % 4294967296)) p
      ∙ ap (λ (n : ℕ). bytes32 (be32 v i) ++ bytes32 n) q
      ∙ behind 4 4 i (bytes32_again i (omega arith)) (bytes32_again (i + 4) (omega arith))

  pub held_again : (i : ℕ) → i + 4 ≤ length v → bytes32 (held32 (be32 v i)) ≡ take 4 (drop i v)
  unfolding held32
  held_again i h = let b = below32 i in ap bytes32 (rw (le-leb (be32 v i) 4294967295 (omega arith))) ∙ bytes32_again i h

  pub single_again : (i : ℕ) → i + 4 ≤ length v → Nan32 v i → single (f32_at v i) ≡ take 4 (drop i v)
  single_again i h c = ap bytes32 (bits_back binary32 0x7fc00000 (be32 v i) (below32 i) c own32) ∙ bytes32_again i h

  pub double_again : (i : ℕ) → i + 8 ≤ length v → Nan64 v i → double (f64_at v i) ≡ take 8 (drop i v)
  double_again i h c = ap bytes64 (bits_back binary64 0x7ff8000000000000 (be64 v i) (below64 i) c own64) ∙ bytes64_again i h

  pub flag_again : (i : ℕ) → i < length v → up_to v i 1 ≡ true → flag (flag_at v i) ≡ take 1 (drop i v)
  flag_again i h l =
      ap (λ (b : ℕ). b ∷ [])
      (by-case (eqb (get_or v i 0) 1)
      (λ y. rw y (sym (eqb-true _ _ y)))
      (λ y. rw y (let z = eqb-false (get_or v i 0) 1 y in let m = leb-true (get_or v i 0) 1 l in omega arith)))
      ∙ byte_again i h

  pub shape_again : (i : ℕ) → i < length v → up_to v i 1 ≡ true → shape_byte (shape_from (get_or v i 0)) ≡ take 1 (drop i v)
  shape_again i h l =
      ap (λ (b : ℕ). b ∷ [])
      (by-case (eqb (get_or v i 0) 0)
      (λ y. rw y (sym (eqb-true _ _ y)))
      (λ y. rw y (let z = eqb-false (get_or v i 0) 0 y in let m = leb-true (get_or v i 0) 1 l in omega arith)))
      ∙ byte_again i h

  pub direction_again : (i : ℕ) → i < length v → up_to v i 2 ≡ true → direction_byte (direction_from (get_or v i 0)) ≡ take 1 (drop i v)
  direction_again i h l =
      ap (λ (b : ℕ). b ∷ [])
      (by-case (eqb (get_or v i 0) 0)
      (λ y. rw y (sym (eqb-true _ _ y)))
      (λ y. by-case (eqb (get_or v i 0) 1)
      (λ z. rw (y, z) (sym (eqb-true _ _ z)))
      (λ z. rw (y, z) (let a = eqb-false (get_or v i 0) 0 y in let b = eqb-false (get_or v i 0) 1 z in let m = leb-true (get_or v i 0) 2 l in omega arith))))
      ∙ byte_again i h
