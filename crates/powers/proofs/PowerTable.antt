-- The table of the powers: what its entries are, by computed tests over all cells, and that the curve through them never falls.
use Rattle.std.proofs.Common.{◌≡◌, ℕ, zero, suc, ◌+◌, ◌-◌, ◌*◌, ◌/◌, ◌%◌, ◌^◌, ◌<◌, ◌≤◌, Bool, ◌&&◌, T, ltb, leb, refl, subst, inl, inr, zero-le, le_trans, le_refl, lt_of_lt_of_le, le_of_suc-le-suc, le-add_right, mul-le-mul, eq-or-lt_of_le, mul-le-mul_left, arith, ltb→lt, leb→le, pow_pos}
use mathlib.Core.Path.{subst⁻¹}
use lib.Ieee.Fits.{and_l, and_r}
use Rattle.floats_laws.proofs.Naturals.{sum-rises, div_rises}
use Rattle.sequences.specs.All.{all, all-at}
use Rattle.powers.specs.PowerCells.{power_starts, power_slopes, power_bends, power_start, power_slope, power_bend}
use Rattle.powers.specs.Power.{curve, in_cell, mantissa}

-- ---- what the entries are
-- a start is 2^(62 + i / 64), to the nearest: 2 * start differs from 2^(63 + i / 64) by less than 1
unfoldable nearest_start : ℕ → Bool
nearest_start i = ltb ((2 * power_start i - 1) ^ 64) (2 ^ (4032 + i)) && ltb (2 ^ (4032 + i)) ((2 * power_start i + 1) ^ 64)

starts_tested : T (all nearest_start 65)
unfolding nearest_start power_start power_starts
starts_tested = tt

pub starts_nearest : (i : ℕ) → i < 65 → ((2 * power_start i - 1) ^ 64 < 2 ^ (4032 + i)) × (2 ^ (4032 + i) < (2 * power_start i + 1) ^ 64)
unfolding nearest_start
starts_nearest i h =
    let a = ltb ((2 * power_start i - 1) ^ 64) (2 ^ (4032 + i)) in
    let b = ltb (2 ^ (4032 + i)) ((2 * power_start i + 1) ^ 64) in
    let t = all-at nearest_start 65 starts_tested i h in
    (ltb→lt ((2 * power_start i - 1) ^ 64) (2 ^ (4032 + i)) (and_l a b t), ltb→lt (2 ^ (4032 + i)) ((2 * power_start i + 1) ^ 64) (and_r a b t))

-- in the middle of a cell, at 2^(62 + (2 i + 1) / 128), the curve is off by at most 2^26, which is 2^-36 of it
unfoldable near_middle : ℕ → Bool
near_middle i = leb ((in_cell i 33554432 - 67108864) ^ 128) (2 ^ (7937 + 2 * i)) && leb (2 ^ (7937 + 2 * i)) ((in_cell i 33554432 + 67108864) ^ 128)

middles_tested : T (all near_middle 64)
unfolding near_middle power_start power_slope power_bend power_starts power_slopes power_bends
middles_tested = tt

pub middles_near : (i : ℕ) → i < 64 → ((in_cell i 33554432 - 67108864) ^ 128 ≤ 2 ^ (7937 + 2 * i)) × (2 ^ (7937 + 2 * i) ≤ (in_cell i 33554432 + 67108864) ^ 128)
unfolding near_middle
middles_near i h =
    let a = leb ((in_cell i 33554432 - 67108864) ^ 128) (2 ^ (7937 + 2 * i)) in
    let b = leb (2 ^ (7937 + 2 * i)) ((in_cell i 33554432 + 67108864) ^ 128) in
    let t = all-at near_middle 64 middles_tested i h in
    (leb→le ((in_cell i 33554432 - 67108864) ^ 128) (2 ^ (7937 + 2 * i)) (and_l a b t), leb→le (2 ^ (7937 + 2 * i)) ((in_cell i 33554432 + 67108864) ^ 128) (and_r a b t))

-- a cell ends within 2^26 of the next one's start, its last place is not above it, and its coefficients are small
unfoldable joins : ℕ → Bool
joins i =
    leb (in_cell i 67108864) (power_start (suc i) + 67108864) && leb (power_start (suc i)) (in_cell i 67108864 + 67108864)
    && leb (in_cell i 67108863) (power_start (suc i)) && ltb (power_slope i) 2147483648 && ltb (power_bend i) 8388608

joins-tested : T (all joins 64)
unfolding joins power_start power_slope power_bend power_starts power_slopes power_bends
joins-tested = tt

pub record Joined (i : ℕ) : Type 0 where
  pub not_far_above : in_cell i 67108864 ≤ power_start (suc i) + 67108864
  pub not_far_below : power_start (suc i) ≤ in_cell i 67108864 + 67108864
  pub rises : in_cell i 67108863 ≤ power_start (suc i)
  pub slope_small : power_slope i < 2147483648
  pub bend_small : power_bend i < 8388608

pub joined : (i : ℕ) → i < 64 → Joined i
unfolding joins
joined i h =
    let a = leb (in_cell i 67108864) (power_start (suc i) + 67108864) in
    let b = leb (power_start (suc i)) (in_cell i 67108864 + 67108864) in
    let c = leb (in_cell i 67108863) (power_start (suc i)) in
    let d = ltb (power_slope i) 2147483648 in
    let e = ltb (power_bend i) 8388608 in
    let t = all-at joins 64 joins-tested i h in
    record {
      not_far_above = leb→le (in_cell i 67108864) (power_start (suc i) + 67108864) (and_l a b (and_l (a && b) c (and_l (a && b && c) d (and_l (a && b && c && d) e t))));
      not_far_below = leb→le (power_start (suc i)) (in_cell i 67108864 + 67108864) (and_r a b (and_l (a && b) c (and_l (a && b && c) d (and_l (a && b && c && d) e t))));
      rises = leb→le (in_cell i 67108863) (power_start (suc i)) (and_r (a && b) c (and_l (a && b && c) d (and_l (a && b && c && d) e t)));
      slope_small = ltb→lt (power_slope i) 2147483648 (and_r (a && b && c) d (and_l (a && b && c && d) e t));
      bend_small = ltb→lt (power_bend i) 8388608 (and_r (a && b && c && d) e t);
    }

-- ---- the curve never falls: in a cell by its form, from cell to cell by the test
curve-rises : (t s b : ℕ) {p r : ℕ} → p ≤ r → curve t s b p ≤ curve t s b r
curve-rises t s b {p} {r} h = sum-rises t (mul-le-mul h (sum-rises s (div_rises (pow_pos 26) (mul-le-mul_left b h))))

curve-above : (t s b r : ℕ) → t ≤ curve t s b r
curve-above t s b r = le-add_right t _

start-next : (i : ℕ) → i < 64 → power_start i ≤ power_start (suc i)
start-next i h = le_trans (curve-above (power_start i) (power_slope i) (power_bend i) 67108863) (joined i h).rises

starts_rise : (i j : ℕ) → i ≤ j → j ≤ 64 → power_start i ≤ power_start j
starts_rise i zero h k = subst⁻¹ (λ (n : ℕ). power_start n ≤ power_start 0) (none i h) (le_refl (power_start 0))
  where
    none : (i : ℕ) → i ≤ 0 → i ≡ 0
    none i h = omega arith
starts_rise i (suc j) h k = elim (eq-or-lt_of_le h) [
  | inl e ↦ subst⁻¹ (λ (n : ℕ). power_start n ≤ power_start (suc j)) e (le_refl (power_start (suc j)))
  | inr l ↦ le_trans (starts_rise i j (le_of_suc-le-suc l) (before j k)) (start-next j k)
]
  where
    before : (j : ℕ) → suc j ≤ 64 → j ≤ 64
    before j h = omega arith

module _ (f : ℕ) where
  in_table : f < 4294967296 → f / 67108864 < 64
  in_table h = omega arith

  last-place : f % 67108864 ≤ 67108863
  last-place = omega arith

cells_rise : (f g : ℕ) → f ≤ g → f / 67108864 ≤ g / 67108864
cells_rise f g h = omega arith

places_rise : (f g : ℕ) → f ≤ g → f / 67108864 ≡ g / 67108864 → f % 67108864 ≤ g % 67108864
places_rise f g h e = omega arith

weak : (i : ℕ) → i < 64 → i ≤ 64
weak i h = omega arith

pub mantissa-rises : {f g : ℕ} → f ≤ g → g < 4294967296 → mantissa f ≤ mantissa g
unfolding mantissa
mantissa-rises {f} {g} h k =
    let i = f / 67108864 in
    let j = g / 67108864 in
    let J = in_table g k in
    elim (eq-or-lt_of_le (cells_rise f g h)) [
      | inl e ↦ subst (λ (n : ℕ). in_cell i (f % 67108864) ≤ in_cell n (g % 67108864)) e (curve-rises (power_start i) (power_slope i) (power_bend i) (places_rise f g h e))
      | inr l ↦
          le_trans (curve-rises (power_start i) (power_slope i) (power_bend i) (last-place f))
          (le_trans (joined i (lt_of_lt_of_le l (weak j J))).rises
          (le_trans (starts_rise (suc i) j l (weak j J)) (curve-above (power_start j) (power_slope j) (power_bend j) (g % 67108864))))
    ]

-- ---- it stays from 2^62 to below 2^63
first : power_start 0 ≡ 4611686018427387904
unfolding power_start power_starts
first = refl

ends : in_cell 63 67108863 ≤ 9223372036854775807
unfolding power_start power_slope power_bend power_starts power_slopes power_bends
ends = leb→le (in_cell 63 67108863) 9223372036854775807 tt

pub mantissa-low : (f : ℕ) → f < 4294967296 → 4611686018427387904 ≤ mantissa f
unfolding mantissa
mantissa-low f h =
    let i = f / 67108864 in
    le_trans (subst (λ (n : ℕ). n ≤ power_start i) first (starts_rise 0 i zero-le (weak i (in_table f h)))) (curve-above (power_start i) (power_slope i) (power_bend i) (f % 67108864))

at_end : mantissa 4294967295 ≤ 9223372036854775807
unfolding mantissa
at_end = ends

pub mantissa-high : (f : ℕ) → f < 4294967296 → mantissa f < 9223372036854775808
mantissa-high f h = let k = mantissa-rises {f = f} {g = 4294967295} (omega arith) (leb→le 4294967296 4294967296 tt) in omega (arith, at_end, k)
