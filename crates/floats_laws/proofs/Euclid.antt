-- A finite number's Euclidean remainder by a positive finite one lies from 0 to the divisor, both ends included, over the format.
use Prim.Native.Nat.{ℕ, zero, suc, ◌+◌, ◌-◌, ◌*◌, ◌%◌, ◌^◌, ◌≤◌, ◌<◌}
use native.Mathlib.Nat.{le_of_lt, le_of_eq, mul_comm, mul_assoc, mul_right_comm, one-mul, mul-pos, mul-le-mul_right, zero-mul, zero-lt-suc, mod-lt, sub_self}
use native.Mathlib.Omega.{arith}
use mathlib.Core.Path.{◌≡◌, refl, sym, ap, ◌∙◌, subst}
use mathlib.Core.Bool.{Bool, true, false, not, cond, ◌&&◌}
use lib.IntN.{ℤ, pos}
use lib.Dec.{T, ltb, eqb-suc-zero}
use lib.Ieee.{Float, nan, inf, fin, Format, up, down, round, sum, rem, add, neg, lt, le, fits, is_nan}
use lib.Ieee.Fits.{up_pos, down_pos, round-fits, neg-fits}
use lib.Ieee.Scale.{finite, round_same}
use borrow.Author.Tests.{le-ltb}
use Rattle.floats.specs.Choose.{abs}
use Rattle.floats.specs.Remainder.{rem_euclid}
use Rattle.floats.proofs.Values.{own-round}
use Rattle.floats.proofs.Rounded.{round_number}
use Rattle.floats_laws.proofs.Keys.{over, side, mag, key}
use Rattle.floats_laws.proofs.Mono.{rounded_size, rounded-size-rises, round_side}
use Rattle.floats_laws.proofs.Rules.{key→le, not_lt→le, lt→le, add_number, neg_finite, finite_number, between-finite}
use Rattle.floats_laws.proofs.Rising.{nought, add_rises, not_above, not_itself}
use Rattle.floats_laws.proofs.Units.{zero_fits}
use Rattle.sequences.specs.Pick.{by-case}

module _ (f : Format) (s : Bool) (a : ℕ) (e : ℤ) (n : ℕ) (d : ℤ) (q : T (fits f (fin false (suc n) d))) where
  abbrev m : Float
  m = fin false (suc n) d

  abbrev r : Float
  r = rem f (fin s a e) m

  abbrev A : ℕ
  A = a * up e * down d

  abbrev M : ℕ
  M = suc n * up d * down e

  abbrev c : ℕ
  c = down e * down d

  c_pos : 0 < c
  c_pos = mul-pos (down_pos e) (down_pos d)

  M_pos : 0 < M
  M_pos = mul-pos (mul-pos (zero-lt-suc n) (up_pos d)) (down_pos e)

  rem_is : r ≡ round f s (A % M) c
  unfolding rem
  rem_is = ap (λ (b : Bool). cond b nan (round f s (A % M) c)) (eqb-suc-zero n)

  divisor_is : round f false M c ≡ m
  divisor_is =
      round_same f false M c (suc n * up d) (down d) c_pos (down_pos d) (mul_right_comm (suc n * up d) (down e) (down d) ∙ mul_assoc (suc n * up d) (down d) (down e) ∙ ap (λ (z : ℕ). suc n * up d * z) (mul_comm (down d) (down e)))
      ∙ own-round f false (suc n) d q

  small : rounded_size f (A % M) c ≤ mag f m
  small = subst (λ (y : Float). rounded_size f (A % M) c ≤ mag f y) divisor_is (rounded-size-rises f (A % M) c M c c_pos c_pos (mul-le-mul_right c (le_of_lt (mod-lt A M_pos))))

  rem_key : key f r ≡ side (over f) s (rounded_size f (A % M) c)
  rem_key = ap (key f) rem_is ∙ round_side f s (A % M) c

  rem_fits : T (fits f r)
  rem_fits = subst (λ (y : Float). T (fits f y)) (sym rem_is) (round-fits f s (A % M) c)

  rem_number : T (not (is_nan r))
  rem_number = subst (λ (y : Float). T (not (is_nan y))) (sym rem_is) (round_number f s (A % M) c)

  m_number : T (not (is_nan m))
  unfolding is_nan
  m_number = tt

  minus_number : T (not (is_nan (neg m)))
  unfolding is_nan neg
  minus_number = tt

  side_most : (t : Bool) (o x y : ℕ) → x ≤ y → side o t x ≤ o + y
  side_most true o x y h = omega arith
  side_most false o x y h = omega arith

  side_least : (t : Bool) (o x y : ℕ) → x ≤ y → o - y ≤ side o t x
  side_least true o x y h = omega arith
  side_least false o x y h = omega arith

  rem_most : T (le r m)
  rem_most = key→le f r m rem_fits q rem_number m_number (subst (λ (z : ℕ). z ≤ key f m) (sym rem_key) (side_most s (over f) (rounded_size f (A % M) c) (mag f m) small))

  rem_least : T (le (neg m) r)
  unfolding neg
  rem_least = key→le f (neg m) r (neg-fits f m q) rem_fits minus_number rem_number (subst (λ (z : ℕ). key f (neg m) ≤ z) (sym rem_key) (side_least s (over f) (rounded_size f (A % M) c) (mag f m) small))

  -- r + m, where r lies from -m to 0
  no_sum : add f (neg m) m ≡ nought
  unfolding add neg sum
  no_sum =
      let z = suc n * up d * down d in
      ap (λ (b : Bool). cond b (round f false (z - z) (down d * down d)) (round f (true && ltb z z) (z - z) (down d * down d))) (le-ltb z z (le_of_eq refl))
      ∙ ap (λ (b : Bool). round f b (z - z) (down d * down d)) (le-ltb z z (le_of_eq refl))
      ∙ ap (λ (w : ℕ). round f false w (down d * down d)) (sub_self z)
      ∙ round_same f false 0 (down d * down d) (0 * 2 ^ 0) 1 (mul-pos (down_pos d) (down_pos d)) (zero-lt-suc 0) (zero-mul 1 ∙ sym (zero-mul (down d * down d)))
      ∙ own-round f false 0 (pos 0) (zero_fits f false)

  own-sum : add f nought m ≡ m
  unfolding add sum
  own-sum =
      round_same f false (0 * 2 ^ 0 * down d + suc n * up d * 1) (1 * down d) (suc n * up d) (down d) (mul-pos (zero-lt-suc 0) (down_pos d)) (down_pos d) (plain (suc n * up d) (down d))
      ∙ own-round f false (suc n) d q
    where
      plain : (x y : ℕ) → (0 * 1 * y + x * 1) * y ≡ x * (1 * y)
      plain x y = ap (λ (z : ℕ). z * y) (omega (arith, zero-mul y)) ∙ ap (λ (z : ℕ). x * z) (sym (one-mul y))

  sum_number : (x : Float) → T (finite x) → T (not (is_nan (add f x m)))
  sum_number x h = add_number f x m (finite_number f x h) tt

  finite_rem : T (finite r)
  finite_rem = between-finite f (neg m) r m (neg_finite f m tt) tt rem_least rem_most

  euclid_in : T (le nought (rem_euclid f (fin s a e) m)) × T (le (rem_euclid f (fin s a e) m) m)
  unfolding rem_euclid abs
  euclid_in =
      by-case (lt r nought)
      (λ h.
      rw h (
        subst (λ (z : Float). T (le z (add f r m))) no_sum (add_rises f (neg m) r m rem_least (sum_number (neg m) (neg_finite f m tt)) (sum_number r finite_rem)),
        subst (λ (z : Float). T (le (add f r m) z)) own-sum (add_rises f r nought m (lt→le r nought h) (sum_number r finite_rem) (sum_number nought tt)),
      ))
      (λ h. rw h (not_lt→le f r nought rem_fits (zero_fits f false) rem_number (finite_number f nought tt) h, rem_most))

pub euclid_within : (f : Format) (x m : Float) → T (fits f m) → T (finite x) → T (finite m) → T (lt nought m) → T (le nought (rem_euclid f x m)) × T (le (rem_euclid f x m) m)
euclid_within f nan m q u v h = absurd u
euclid_within f (inf s) m q u v h = absurd u
euclid_within f (fin s a e) nan q u v h = absurd v
euclid_within f (fin s a e) (inf t) q u v h = absurd v
euclid_within f (fin s a e) (fin true n d) q u v h = absurd (not_above n d h)
euclid_within f (fin s a e) (fin false zero d) q u v h = absurd (not_itself d h)
euclid_within f (fin s a e) (fin false (suc n) d) q u v h = euclid_in f s a e n d q
