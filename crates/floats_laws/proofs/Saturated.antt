-- A float's whole part, brought to the ends of an unsigned type, over the width; and what a test against minus one, 0 or a power
-- of two says of it.
use Rattle.std.proofs.Common.{◌≡◌, ℕ, ◌+◌, ◌-◌, ◌*◌, ◌/◌, ◌^◌, ◌<◌, ◌≤◌, min, true, false, pos, sym, refl, ap, mul-pos, one-mul, le-div_iff_mul-le, mul-one, arith, pow_pos, pow_mono, ltb-false, T, subst, lt_of_lt_of_le, mul-le-mul_right, div-lt_iff_lt-mul, zero-mul, lt→ltb, ltb-true, lt-ltb}
use mathlib.Core.Bool.{false≢true}
use lib.Ieee.{Float, nan, inf, fin, up, down, lt, to_unsigned, neg}
use lib.Ieee.Fits.{down_pos}

pub sat_zero : (w : ℕ) (x : Float) → lt (fin true 1 (pos 0)) x ≡ false → to_unsigned w x ≡ 0
unfolding lt to_unsigned
sat_zero w nan h = refl
sat_zero w (inf true) h = refl
sat_zero w (inf false) h = absurd (false≢true (sym h))
sat_zero w (fin true m e) h = refl
sat_zero w (fin false m e) h = let p = ltb-false _ _ h in absurd (go (down e) (m * up e) (down_pos e) p)
  where
    go : (d a : ℕ) → 0 < d → 1 * 2 ^ 0 * d + a * 1 ≤ 0 → ⊥
    go d a D p = omega arith

pub sat_top : (w : ℕ) (x : Float) → lt (fin true 1 (pos 0)) x ≡ true → lt x (fin false 1 (pos w)) ≡ false → to_unsigned w x ≡ 2 ^ w - 1
unfolding lt to_unsigned
sat_top w nan h k = absurd (false≢true h)
sat_top w (inf true) h k = absurd (false≢true h)
sat_top w (inf false) h k = refl
sat_top w (fin true m e) h k = let p = ltb-false _ _ k in let q = mul-pos (pow_pos w) (down_pos e) in absurd (go (2 ^ w * down e) (1 * 2 ^ w * down e) (m * up e * 1) (ap (λ (z : ℕ). z * down e) (one-mul (2 ^ w))) q p)
  where
    go : (c d a : ℕ) → d ≡ c → 0 < c → a + d ≤ 0 → ⊥
    go c d a e D p = omega arith
sat_top w (fin false m e) h k =
    let p : 1 * 2 ^ w * down e ≤ m * up e * 1 = ltb-false _ _ k in
    let q : 2 ^ w ≤ m * up e / down e = (le-div_iff_mul-le (down_pos e)).1 (rw (one-mul, mul-one) at p) in
    omega arith

pub to_unsigned_narrow : (v w : ℕ) (x : Float) → v ≤ w → to_unsigned v x ≡ min (to_unsigned w x) (2 ^ v - 1)
unfolding to_unsigned
to_unsigned_narrow v w nan h = omega arith
to_unsigned_narrow v w (inf true) h = omega arith
to_unsigned_narrow v w (inf false) h = let p : 2 ^ v ≤ 2 ^ w = pow_mono h in omega arith
to_unsigned_narrow v w (fin true m e) h = omega arith
to_unsigned_narrow v w (fin false m e) h = let p : 2 ^ v ≤ 2 ^ w = pow_mono h in omega arith

-- ---- what a test says
pub above_minus_one : (x : Float) → lt (fin false 0 (pos 0)) x ≡ true → T (lt (fin true 1 (pos 0)) x)
unfolding lt
above_minus_one nan h = absurd (false≢true h)
above_minus_one (inf true) h = absurd (false≢true h)
above_minus_one (inf false) h = tt
above_minus_one (fin true m e) h = absurd (false≢true h)
above_minus_one (fin false m e) h = lt→ltb 0 (1 * 2 ^ 0 * down e + m * up e * 1) (let p = down_pos e in omega arith)

-- below 2 ^ j is below 2 ^ k
pub under_more : (x : Float) (j k : ℕ) → j ≤ k → lt x (fin false 1 (pos j)) ≡ true → T (lt x (fin false 1 (pos k)))
unfolding lt
under_more nan j k l h = absurd (false≢true h)
under_more (inf true) j k l h = tt
under_more (inf false) j k l h = absurd (false≢true h)
under_more (fin true m e) j k l h = lt→ltb 0 (m * up e * 1 + 1 * 2 ^ k * down e) (let p : 0 < 1 * 2 ^ k * down e = mul-pos (rw one-mul (pow_pos k)) (down_pos e) in omega arith)
under_more (fin false m e) j k l h =
    lt→ltb (m * up e * 1) (1 * 2 ^ k * down e)
    (lt_of_lt_of_le (ltb-true (m * up e * 1) (1 * 2 ^ j * down e) h) (mul-le-mul_right (down e) (subst (λ (z : ℕ). z ≤ 1 * 2 ^ k) (sym (one-mul (2 ^ j))) (subst (λ (z : ℕ). 2 ^ j ≤ z) (sym (one-mul (2 ^ k))) (pow_mono l)))))

-- the negation of what is below 0 is above it
pub neg_positive : (x : Float) → lt x (fin false 0 (pos 0)) ≡ true → lt (fin false 0 (pos 0)) (neg x) ≡ true
unfolding lt neg
neg_positive nan h = h
neg_positive (inf true) h = refl
neg_positive (inf false) h = h
neg_positive (fin true m e) h = lt-ltb _ _ (go (m * up e) (down e) (ltb-true _ _ h))
  where
    go : (a d : ℕ) → 0 < a * 1 + 0 * 2 ^ 0 * d → 0 * 2 ^ 0 * d < a * 1
    go a d p = omega (arith, zero-mul d)
neg_positive (fin false m e) h = absurd (go (m * up e) (down e) (ltb-true _ _ h))
  where
    go : (a d : ℕ) → a * 1 < 0 * 2 ^ 0 * d → ⊥
    go a d p = omega (arith, zero-mul d)

-- a whole part is below the power of two that the number is below
pub whole-under : (v w : ℕ) (x : Float) → lt x (fin false 1 (pos v)) ≡ true → to_unsigned w x < 2 ^ v
unfolding lt to_unsigned
whole-under v w nan h = absurd (false≢true h)
whole-under v w (inf true) h = pow_pos v
whole-under v w (inf false) h = absurd (false≢true h)
whole-under v w (fin true m e) h = pow_pos v
whole-under v w (fin false m e) h =
    let p : m * up e * 1 < 1 * 2 ^ v * down e = ltb-true _ _ h in
    let q : m * up e / down e < 2 ^ v = (div-lt_iff_lt-mul (down_pos e)).1 (rw (mul-one, one-mul) at p) in
    omega arith
