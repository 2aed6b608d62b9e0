-- The remainder of two f64 by the counts of smallest values that their patterns stand for.
use Rattle.std.proofs.Common.{◌≡◌, ℕ, ◌+◌, ◌-◌, ◌*◌, ◌/◌, ◌%◌, ◌^◌, ◌<◌, ◌≤◌, Bool, true, false, T, leb, pos, sym, refl, ap, ◌∙◌, subst, inl, inr, le_trans, le_of_eq, lt_of_lt_of_le, mul-le-mul_right, mod-eq_of_lt, eq-or-lt_of_le, mul-pos, arith, pow_pos, pow_mono, pow-add, shl_lt}
use lib.Ieee.{Float, nan, inf, fin, binary64, round, rem, neg, fits, to_bits, of_bits}
use lib.Ieee.Exact.{HasValue}
use lib.Ieee.Bits.{of_bits-to_bits}
use Rattle.floats.proofs.Narrow.{nan_above}
use Rattle.floats.proofs.Pack.{inf_pattern}
use Rattle.floats.proofs.Residues.{places_off}
use Rattle.floats.proofs.Count.{Count, count-value, count-pattern, turned, turned_round, by_size}
use Rattle.floats.proofs.Remainders.{rem_counts}

-- ---- a pattern without its sign
abbrev shift : ℕ → ℕ
shift a = a / 4503599627370496 - 1

abbrev digits : ℕ → ℕ
digits a = a - shift a * 4503599627370496

abbrev sign : Float → Bool
sign x = leb 9223372036854775808 (to_bits binary64 x)

abbrev size : Float → ℕ
size x = to_bits binary64 x % 9223372036854775808

module _ (a : ℕ) (A : a < 9218868437227405312) where
  counted : Count binary64 (shift a) (digits a)
  counted = record { few = omega arith; under = omega arith }

  read : (s : Bool) → turned s (of_bits binary64 a) ≡ round binary64 s (digits a * 2 ^ shift a) (2 ^ 1074)
  read s =
      ap (λ (v : Float). turned s v) (ap (of_bits binary64) split ∙ count-pattern binary64 (shift a) (digits a) counted (λ (p : 0 < shift a). omega arith))
      ∙ turned_round binary64 s (digits a * 2 ^ shift a) (2 ^ 1074)
    where
      split : a ≡ shift a * 4503599627370496 + digits a
      split = omega arith

-- a number with the greater shift is larger
below : (a b : ℕ) → shift a < shift b → digits a * 2 ^ shift a < digits b * 2 ^ shift b
below a b h =
    lt_of_lt_of_le (shl_lt 53 (shift a) (few a))
    (le_trans (pow_mono (step (shift a) (shift b) h)) (le_trans (le_of_eq (pow-add 2 52 (shift b))) (mul-le-mul_right (2 ^ shift b) (lead b (omega arith)))))
  where
    few : (a : ℕ) → digits a < 2 ^ 53
    few a = omega arith

    lead : (b : ℕ) → 0 < shift b → 2 ^ 52 ≤ digits b
    lead b p = omega arith

    step : (i j : ℕ) → i < j → 53 + i ≤ 52 + j
    step i j h = omega arith

-- ---- what is no finite number
of_nan : (x : Float) → rem binary64 x nan ≡ nan
unfolding rem
of_nan nan = refl
of_nan (inf s) = refl
of_nan (fin s m e) = refl

of_zero : (x : Float) (t : Bool) → rem binary64 x (turned t (fin false 0 (pos 0))) ≡ nan
unfolding rem neg
of_zero nan t = refl
of_zero (inf s) t = refl
of_zero (fin s m e) true = refl
of_zero (fin s m e) false = refl

of_infinite : (s : Bool) (m : Float) → rem binary64 (turned s (inf false)) m ≡ nan
unfolding rem neg
of_infinite true m = refl
of_infinite false m = refl

by_infinite : (x : Float) (s t : Bool) (a c : ℕ) → HasValue x s a c → rem binary64 x (turned t (inf false)) ≡ x
unfolding rem neg
by_infinite nan s t a c v = absurd v
by_infinite (inf u) s t a c v = absurd v
by_infinite (fin u m e) s true a c v = refl
by_infinite (fin u m e) s false a c v = refl

is_nan_lem : (x : Float) → T (fits binary64 x) → 9218868437227405312 < size x → x ≡ nan
is_nan_lem x p h = sym (of_bits-to_bits binary64 x p) ∙ nan_above binary64 (to_bits binary64 x) h

is_infinite : (x : Float) → T (fits binary64 x) → size x ≡ 9218868437227405312 → x ≡ turned (sign x) (inf false)
is_infinite x p h = by_size binary64 x p ∙ ap (λ (v : Float). turned (sign x) v) (ap (of_bits binary64) h ∙ inf_pattern binary64)

pub zero_pattern : of_bits binary64 0 ≡ fin false 0 (pos 0)
unfolding of_bits
zero_pattern = refl

module _ (x m : Float) (p : T (fits binary64 x)) (q : T (fits binary64 m)) where
  pub not_finite : 9218868437227405312 ≤ size x → nan ≡ rem binary64 x m
  unfolding rem
  not_finite h = elim (eq-or-lt_of_le h) [
    | inl e ↦ sym (ap (λ (v : Float). rem binary64 v m) (is_infinite x p (sym e)) ∙ of_infinite (sign x) m)
    | inr l ↦ ap (λ (v : Float). rem binary64 v m) (sym (is_nan_lem x p l))
  ]

  pub by_nan : 9218868437227405312 < size m → nan ≡ rem binary64 x m
  by_nan h = sym (ap (rem binary64 x) (is_nan_lem m q h) ∙ of_nan x)

  pub by_zero : size m ≡ 0 → nan ≡ rem binary64 x m
  by_zero h =
      sym (ap (rem binary64 x) (by_size binary64 m q ∙ ap (λ (v : Float). turned (sign m) v) (ap (of_bits binary64) h ∙ zero_pattern)) ∙ of_zero x (sign m))

  -- ---- finite numbers
  module _ (A : size x < 9218868437227405312) where
    dividend : x ≡ round binary64 (sign x) (digits (size x) * 2 ^ shift (size x)) (2 ^ 1074)
    dividend = by_size binary64 x p ∙ read (size x) A (sign x)

    value : HasValue x (sign x) (digits (size x) * 2 ^ shift (size x)) (2 ^ 1074)
    value = subst (λ (v : Float). HasValue v (sign x) (digits (size x) * 2 ^ shift (size x)) (2 ^ 1074)) (sym dividend) (count-value binary64 (shift (size x)) (digits (size x)) (counted (size x) A) (sign x))

    module _ (B : size m < 9218868437227405312) (Z : 0 < size m) where
      divisor : HasValue m (sign m) (digits (size m) * 2 ^ shift (size m)) (2 ^ 1074)
      divisor =
          subst (λ (v : Float). HasValue v (sign m) (digits (size m) * 2 ^ shift (size m)) (2 ^ 1074)) (sym (by_size binary64 m q ∙ read (size m) B (sign m)))
          (count-value binary64 (shift (size m)) (digits (size m)) (counted (size m) B) (sign m))

      some : 0 < digits (size m)
      some = omega arith

      finite-is : rem binary64 x m ≡ round binary64 (sign x) (digits (size x) * 2 ^ shift (size x) % (digits (size m) * 2 ^ shift (size m))) (2 ^ 1074)
      finite-is = rem_counts binary64 x m (sign x) (sign m) _ _ (2 ^ 1074) (mul-pos some (pow_pos (shift (size m)))) (pow_pos 1074) value divisor

      long : shift (size m) ≤ shift (size x)
          → turned (sign x) (round binary64 false (digits (size x) * 2 ^ (shift (size x) - shift (size m)) % digits (size m) * 2 ^ shift (size m)) (2 ^ 1074)) ≡ rem binary64 x m
      long h =
          turned_round binary64 (sign x) (digits (size x) * 2 ^ (shift (size x) - shift (size m)) % digits (size m) * 2 ^ shift (size m)) (2 ^ 1074)
          ∙ sym (finite-is ∙ ap (λ (n : ℕ). round binary64 (sign x) n (2 ^ 1074)) (places_off (digits (size x)) (digits (size m)) (shift (size x)) (shift (size m)) h some))

    pub short : size m ≤ 9218868437227405312 → shift (size x) < shift (size m) → x ≡ rem binary64 x m
    short h l = elim (eq-or-lt_of_le h) [
      | inl e ↦ sym (ap (rem binary64 x) (is_infinite m q e) ∙ by_infinite x (sign x) (sign m) _ (2 ^ 1074) value)
      | inr b ↦
          sym (finite-is b (omega arith) ∙ ap (λ (n : ℕ). round binary64 (sign x) n (2 ^ 1074)) (mod-eq_of_lt (below (size x) (size m) l)) ∙ sym dividend)
    ]

  -- with the names of the code
  pub long-is : (w y i j r : ℕ) (v : Float) → w ≡ to_bits binary64 x → y ≡ to_bits binary64 m → i ≡ shift (w % 9223372036854775808) → j ≡ shift (y % 9223372036854775808)
      → w % 9223372036854775808 < 9218868437227405312 → 0 < y % 9223372036854775808 → y % 9223372036854775808 ≤ 9218868437227405312 → j ≤ i
      → r ≡ (w % 9223372036854775808 - i * 4503599627370496) * 2 ^ (i - j) % (y % 9223372036854775808 - j * 4503599627370496)
      → v ≡ round binary64 false (r * 2 ^ j) (2 ^ 1074)
      → turned (leb 9223372036854775808 w) v ≡ rem binary64 x m
  long-is w y i j r v ew ey ei ej A Z B h er ev =
      rw (ev, er, ei, ej, ew, ey) (long (omega (arith, ew)) (omega (arith, ew, ey, ei, ej)) (omega (arith, ey)) (omega (arith, ew, ey, ei, ej)))
