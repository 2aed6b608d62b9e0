-- sqrt is IEEE 754's: the nearest float to the root, decided by squares of whole numbers. And it is the only float that is.
use mathlib.Core.Path.{◌≡◌, refl, sym, ap, ◌∙◌, subst, subst⁻¹}
use mathlib.Core.Logic.{inl, inr}
use mathlib.Core.Bool.{Bool, true, false, cond}
use Prim.Native.Nat.{ℕ, suc, ◌+◌, ◌-◌, ◌*◌, ◌/◌, ◌%◌, ◌^◌, ◌≤◌, ◌<◌}
use native.Mathlib.Nat.{le_trans, lt_of_lt_of_le, lt_of_le_of_lt, not-le_of_lt, le_antisymm, le_of_eq, mul_assoc, mul-le-mul_left, mul-le-mul_right, mul-lt-mul_of_pos_right, eq_of_mul-eq-mul_right}
use native.Mathlib.Omega.{arith}
use lib.Dec.{T, eqb, leb→le}
use lib.Pow.{pow_pos, pow-add, pow_mono}
use lib.Ieee.{Float, binary32, fits, of_bits, to_bits}
use lib.Ieee.Bits.{of_bits-to_bits}
use lib.Ieee.Exact.{HasValue}
use lib.Ieee.Positive.{positive}
use borrow.Author.Tests.{eqb-true, eqb-false}
use Rattle.floats_laws.proofs.Naturals.{le_or_lt}
use Rattle.floats_laws.proofs.Patterns.{val, bits_value}
use Rattle.floats_laws.proofs.PositiveBits.{positive-above, positive-under}
use Rattle.floats_laws.proofs.Rescaled.{rescale, one_value, powers_move}
use Rattle.floats.proofs.Values.{unique}
use Rattle.floats.proofs.Residues.{gathered}
use Rattle.elementary.specs.Rung.{rung_of, digits_of}
use Rattle.elementary.specs.Sqrt.{NearestRoot, nearest_root, scaled_of, root_bits, sqrt_of, RootRounded}
use Rattle.elementary.proofs.Rungs.{amount, Parts, parts}
use Rattle.elementary.proofs.Squares.{squares_le, nearest_unique, nearest_root_lem}
use Rattle.elementary.proofs.Tested.{passed}

-- a finite number above zero
pub sqrt-is : (x : Float) → T (positive x) → sqrt_of x ≡ of_bits binary32 (root_bits (to_bits binary32 x))
unfolding sqrt_of
sqrt-is x p = let t = passed x p in rw (t.number, t.above, t.some, t.less)

-- ---- the scaled argument and its root
scaled-is : (b : ℕ) → scaled_of b ≡ digits_of b * 2 ^ (24 - rung_of b % 2)
unfolding scaled_of
scaled-is b = go (eqb (rung_of b % 2) 1) refl
  where
    go : (t : Bool) → eqb (rung_of b % 2) 1 ≡ t → cond t (digits_of b * 8388608) (digits_of b * 16777216) ≡ digits_of b * 2 ^ (24 - rung_of b % 2)
    go true e = rw (eqb-true (rung_of b % 2) 1 e)
    go false e = rw (even (rung_of b) (eqb-false (rung_of b % 2) 1 e))
      where
        even : (j : ℕ) → (j % 2 ≡ 1 → ⊥) → j % 2 ≡ 0
        even j h = omega arith

pub record Scaled (b : ℕ) : Type 0 where
  pub from : 70368744177664 ≤ scaled_of b
  pub to : scaled_of b ≤ 281474959933440
  pub lead : 8388608 ≤ nearest_root (scaled_of b)
  pub few : nearest_root (scaled_of b) < 16777216
  pub under : root_bits b < 2139095040

root_lead : (n r : ℕ) → 70368744177664 ≤ n → NearestRoot n r → 8388608 ≤ r
root_lead n r h p = elim (le_or_lt 8388608 r) [
  | inl l ↦ l
  | inr g ↦ absurd (small (lt_of_lt_of_le p.above (squares_le (2 * r + 1) 16777215 (few r g))))
]
  where
    few : (r : ℕ) → r < 8388608 → 2 * r + 1 ≤ 16777215
    few r h = omega arith

    small : 4 * n < 281474943156225 → ⊥
    small k = omega arith

root_few : (n r : ℕ) → n ≤ 281474959933440 → NearestRoot n r → r < 16777216
root_few n r h p = elim (le_or_lt 16777216 r) [
  | inl g ↦ absurd (large (lt_of_le_of_lt (squares_le 33554431 (2 * r - 1) (many r g)) p.below))
  | inr l ↦ l
]
  where
    many : (r : ℕ) → 16777216 ≤ r → 33554431 ≤ 2 * r - 1
    many r h = omega arith

    large : 1125899839733761 < 4 * n → ⊥
    large k = omega arith

scaled_in : (m j n : ℕ) → 8388608 ≤ m → m < 16777216 → n ≡ m * 2 ^ (24 - j % 2) → (70368744177664 ≤ n) × (n ≤ 281474959933440)
scaled_in m j n a b e = elim (le_or_lt 1 (j % 2)) [
  | inl o ↦ let f : n ≡ m * 8388608 = e ∙ ap (λ (z : ℕ). m * 2 ^ (24 - z)) (odd j o) in (omega arith, omega arith)
  | inr o ↦ let f : n ≡ m * 16777216 = e ∙ ap (λ (z : ℕ). m * 2 ^ (24 - z)) (even j o) in (omega arith, omega arith)
]
  where
    odd : (j : ℕ) → 1 ≤ j % 2 → j % 2 ≡ 1
    odd j h = omega arith

    even : (j : ℕ) → j % 2 < 1 → j % 2 ≡ 0
    even j h = omega arith

pub scaled : (b : ℕ) → 0 < b → b < 2139095040 → Scaled b
unfolding root_bits
scaled b p h =
    let s = parts b p h in
    let i = scaled_in (digits_of b) (rung_of b) (scaled_of b) s.from s.to (scaled-is b) in
    let q = nearest_root_lem (scaled_of b) (lt_of_lt_of_le (pow_pos 0) (le_trans (leb→le 1 70368744177664 tt) i.0)) in
    let few : nearest_root (scaled_of b) < 16777216 = root_few (scaled_of b) (nearest_root (scaled_of b)) i.1 q in
    record {
      from = i.0;
      to = i.1;
      lead = root_lead (scaled_of b) (nearest_root (scaled_of b)) i.0 q;
      few = few;
      under = omega (arith, s.few);
    }

-- ---- the value of the assembled pattern
assembled : (h r : ℕ) → h ≤ 138 → 8388608 ≤ r → r < 16777216 → HasValue (of_bits binary32 ((h + 51) * 8388608 + r)) false (r * 2 ^ h) (2 ^ 98)
assembled h r k a b =
    let v = bits_value binary32 ((h + 51) * 8388608 + r) (omega arith) in
    let field : ((h + 51) * 8388608 + r) / 8388608 ≡ suc (h + 51) = omega arith in
    let part : ((h + 51) * 8388608 + r) % 8388608 ≡ r - 8388608 = omega arith in
    let whole : 8388608 + (r - 8388608) ≡ r = omega arith in
    rescale (of_bits binary32 ((h + 51) * 8388608 + r)) false (r * 2 ^ (h + 51)) (2 ^ 149) (r * 2 ^ h) (2 ^ 98) (pow_pos 149) (powers_move r h 149 (h + 51) 98 (omega arith))
    (subst (λ (z : ℕ). HasValue (of_bits binary32 ((h + 51) * 8388608 + r)) false (z * 2 ^ (h + 51)) (2 ^ 149)) whole
    (subst (λ (z : ℕ). HasValue (of_bits binary32 ((h + 51) * 8388608 + r)) false (val 8388608 (suc (h + 51)) z) (2 ^ 149)) part
    (subst (λ (z : ℕ). HasValue (of_bits binary32 ((h + 51) * 8388608 + r)) false (val 8388608 z (((h + 51) * 8388608 + r) % 8388608)) (2 ^ 149)) field v)))

-- m * 2^j in units of 2^-172 is n * 2^(2 h) in units of 2^-196
pub scaled_value : (b : ℕ) → Parts b → scaled_of b * 2 ^ (2 * ((rung_of b + 1) / 2)) * 2 ^ 149 ≡ amount b * 2 ^ 196
scaled_value b s =
    let m = digits_of b in
    let j = rung_of b in
    let h = (j + 1) / 2 in
    ap (λ (z : ℕ). z * 2 ^ (2 * h) * 2 ^ 149) (scaled-is b)
    ∙ ap (λ (z : ℕ). z * 2 ^ 149) (gathered m (24 - j % 2) (2 * h))
    ∙ powers_move m (24 - j % 2 + 2 * h) 149 j 173 (same j)
    ∙ ap (λ (z : ℕ). z * 2 ^ 173) s.value
    ∙ gathered (amount b) 23 173
  where
    same : (j : ℕ) → 24 - j % 2 + 2 * ((j + 1) / 2) + 149 ≡ j + 173
    same j = omega arith

-- ---- THE CLAIM
pub sqrt_rounds : (x : Float) → T (fits binary32 x) → T (positive x) → RootRounded x (sqrt_of x)
unfolding root_bits
sqrt_rounds x f p =
    let b = to_bits binary32 x in
    let B = positive-above binary32 x f p in
    let k = positive-under binary32 x f p in
    let s = parts b B k in
    let t = scaled b B k in
    record {
      n = scaled_of b;
      r = nearest_root (scaled_of b);
      h = (rung_of b + 1) / 2;
      argument = subst (λ (y : Float). HasValue y false (scaled_of b * 2 ^ (2 * ((rung_of b + 1) / 2))) (2 ^ 196)) (of_bits-to_bits binary32 x f) (rescale (of_bits binary32 b) false (amount b) (2 ^ 149) (scaled_of b * 2 ^ (2 * ((rung_of b + 1) / 2))) (2 ^ 196) (pow_pos 149) (scaled_value b s) (bits_value binary32 b k));
      answer = subst⁻¹ (λ (y : Float). HasValue y false (nearest_root (scaled_of b) * 2 ^ ((rung_of b + 1) / 2)) (2 ^ 98)) (sqrt-is x p) (assembled ((rung_of b + 1) / 2) (nearest_root (scaled_of b)) (omega (arith, s.few)) t.lead t.few);
      nearest = nearest_root_lem (scaled_of b) (omega (arith, t.from));
      from = t.from;
      to = omega (arith, t.to);
      lead = t.lead;
      few = t.few;
    }

-- ---- no other float is
steps_le : (n m i j : ℕ) → 2 ^ 46 ≤ n → m < 2 ^ 48 → n * 2 ^ (2 * i) ≤ m * 2 ^ (2 * j) → i ≤ j
steps_le n m i j N M h = elim (le_or_lt i j) [
  | inl l ↦ l
  | inr g ↦ absurd (not-le_of_lt (lt_of_le_of_lt h (lt_of_lt_of_le (mul-lt-mul_of_pos_right M (pow_pos (2 * j))) four)) (le_trans (mul-le-mul_left (2 ^ 46) (pow_mono (next i j g))) (mul-le-mul_right (2 ^ (2 * i)) N)))
]
  where
    next : (i j : ℕ) → j < i → 2 + 2 * j ≤ 2 * i
    next i j h = omega arith

    four : 2 ^ 48 * 2 ^ (2 * j) ≤ 2 ^ 46 * 2 ^ (2 + 2 * j)
    four = le_of_eq (mul_assoc (2 ^ 46) (2 ^ 2) (2 ^ (2 * j)) ∙ ap (λ (z : ℕ). 2 ^ 46 * z) (sym (pow-add 2 2 (2 * j))))

pub rounded_unique : (x y z : Float) → T (fits binary32 y) → T (fits binary32 z) → RootRounded x y → RootRounded x z → y ≡ z
rounded_unique x y z f g p q =
    let e : p.n * 2 ^ (2 * p.h) ≡ q.n * 2 ^ (2 * q.h) = one_value x false _ _ (2 ^ 196) p.argument q.argument in
    let h : p.h ≡ q.h = le_antisymm (steps_le p.n q.n p.h q.h p.from q.to (le_of_eq e)) (steps_le q.n p.n q.h p.h q.from p.to (le_of_eq (sym e))) in
    let n : p.n ≡ q.n = eq_of_mul-eq-mul_right (2 ^ (2 * q.h)) (pow_pos (2 * q.h)) p.n q.n (ap (λ (k : ℕ). p.n * 2 ^ (2 * k)) (sym h) ∙ e) in
    let r : p.r ≡ q.r = nearest_unique q.n p.r q.r (subst (λ (k : ℕ). NearestRoot k p.r) n p.nearest) q.nearest in
    unique binary32 y z false (q.r * 2 ^ q.h) (2 ^ 98) (pow_pos 98) f g (subst (λ (k : ℕ). HasValue y false (k * 2 ^ q.h) (2 ^ 98)) r (subst (λ (k : ℕ). HasValue y false (p.r * 2 ^ k) (2 ^ 98)) h p.answer)) q.answer
