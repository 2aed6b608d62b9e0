-- The special cases of log2 and sqrt are tests on the float. Here: only a finite number above zero passes them all, and it does.
use mathlib.Core.Path.{◌≡◌, refl, sym, ap, ◌∙◌}
use mathlib.Core.Logic.{◌⊎◌, inl, inr}
use mathlib.Core.Bool.{Bool, true, false, true≢false}
use Prim.Native.Nat.{ℕ, zero, suc, ◌+◌, ◌*◌, ◌≤◌, ◌<◌}
use native.Mathlib.Nat.{mul-pos, zero-mul, zero-lt-suc}
use native.Mathlib.Omega.{arith}
use lib.IntN.{ℤ}
use lib.Pow.{pow_pos}
use lib.Dec.{T, eqb, eqb→eq, ltb→lt, lt→ltb}
use lib.Ieee.{Float, nan, inf, fin, binary32, up, down, is_nan, ne, lt, le, eq, level, to_bits}
use lib.Ieee.Fits.{up_pos, and_l}
use lib.Ieee.Positive.{positive, above, above_of_le}
use Rattle.floats_laws.proofs.Rising.{nought, highest}
use Rattle.floats.proofs.Facts.{ne_self}
use Rattle.elementary.specs.Log2.{log_of, log2_of}
use borrow.Author.Tests.{ltb-false, le-ltb, ne_eqb}

pub record Passed (x : Float) : Type 0 where
  pub number : is_nan x ≡ false
  pub above : lt x nought ≡ false
  pub some : eq x nought ≡ false
  pub less : eq x (inf false) ≡ false

zero_left : (e u : ℕ) → 0 * e * u ≡ 0
zero_left e u = ap (λ (z : ℕ). z * u) (zero-mul e) ∙ zero-mul u

level-zeros : (s : Bool) (a b : ℕ) → a ≡ 0 → b ≡ 0 → level s a false b ≡ true
level-zeros true a b p q = rw (p, q)
level-zeros false a b p q = rw (p, q)

tested : (x : Float) → Passed x → T (positive x)
unfolding is_nan lt eq
tested nan p = absurd (true≢false p.number)
tested (inf true) p = absurd (true≢false p.above)
tested (inf false) p = absurd (true≢false p.less)
tested (fin s zero e) p = absurd (true≢false (sym (level-zeros s (0 * up e * 1) (0 * 1 * down e) (zero_left (up e) 1) (zero_left 1 (down e))) ∙ p.some))
tested (fin true (suc m) e) p = absurd (none (suc m * up e) (0 * 1 * down e) (mul-pos (zero-lt-suc m) (up_pos e)) (ltb-false 0 (suc m * up e * 1 + 0 * 1 * down e) p.above))
  where
    none : (a b : ℕ) → 0 < a → a * 1 + b ≤ 0 → ⊥
    none a b h k = omega arith
tested (fin false (suc m) e) p = lt→ltb 0 (suc m) (zero-lt-suc m)

-- as code tests it
pub past_tests : (x : Float) → ne x x ≡ false → lt x nought ≡ false → eq x nought ≡ false → eq x (inf false) ≡ false → T (positive x)
past_tests x n a s l = tested x (record { number = sym (ne_self x) ∙ n; above = a; some = s; less = l })

pub passed : (x : Float) → T (positive x) → Passed x
unfolding is_nan lt eq
passed nan p = absurd p
passed (inf s) p = absurd p
passed (fin true m e) p = absurd p
passed (fin false m e) p =
    let a : 0 < m * up e = mul-pos (ltb→lt 0 m p) (up_pos e) in
    record {
      number = refl;
      above = le-ltb (m * up e * 1) (0 * 1 * down e) (rw (zero_left 1 (down e)) (omega arith));
      some = rw (zero_left 1 (down e), ne_eqb (m * up e * 1) 0 (λ h. omega arith));
      less = refl;
    }

-- above zero is finite above zero, or infinity
pub above_zero : (x : Float) → T (lt nought x) → T (positive x) ⊎ (x ≡ inf false)
unfolding lt
above_zero nan h = absurd h
above_zero (inf true) h = absurd h
above_zero (inf false) h = inr refl
above_zero (fin true m e) h = absurd h
above_zero (fin false m e) h = inl (lt→ltb 0 m (some m (up e) (ltb→lt (0 * 1 * down e) (m * up e * 1) h)))
  where
    some : (m u : ℕ) → 0 * 1 * down e < m * u * 1 → 0 < m
    some zero u h = absurd (none (0 * 1 * down e) (0 * u * 1) (zero_left u 1) h)
      where
        none : (a b : ℕ) → b ≡ 0 → a < b → ⊥
        none a b p h = omega arith
    some (suc m) u h = zero-lt-suc m

-- ---- at zero or above: a zero, finite above zero, or infinity
pub data Level (x : Float) : Type 0 where
  none : eq x nought ≡ true → lt x nought ≡ false → is_nan x ≡ false → Level x
  some : T (positive x) → Level x
  most : x ≡ inf false → Level x

zero_level : (s : Bool) (e : ℤ) → Level (fin s 0 e)
unfolding is_nan lt eq
zero_level true e = none (level-zeros true (0 * up e * 1) (0 * 1 * down e) (zero_left (up e) 1) (zero_left 1 (down e))) (rw (zero_left (up e) 1, zero_left 1 (down e))) refl
zero_level false e = none (level-zeros false (0 * up e * 1) (0 * 1 * down e) (zero_left (up e) 1) (zero_left 1 (down e))) (rw (zero_left (up e) 1, zero_left 1 (down e))) refl

pub at-least_zero : (x : Float) → T (le nought x) → Level x
unfolding le lt eq
at-least_zero nan h = absurd h
at-least_zero (inf true) h = absurd h
at-least_zero (inf false) h = most refl
at-least_zero (fin s zero e) h = zero_level s e
at-least_zero (fin false (suc m) e) h = some (lt→ltb 0 (suc m) (zero-lt-suc m))
at-least_zero (fin true (suc m) e) h = absurd (none' (0 * 1 * down e) (suc m * up e * 1) (zero_left 1 (down e)) (mul-pos (mul-pos (zero-lt-suc m) (up_pos e)) (pow_pos 0)) (eqb→eq (0 * 1 * down e) (suc m * up e * 1) (and_l (eqb (0 * 1 * down e) (suc m * up e * 1)) (eqb (0 * 1 * down e) 0) h)))
  where
    none' : (a b : ℕ) → a ≡ 0 → 0 < b → a ≡ b → ⊥
    none' a b p q e = omega arith

-- ---- infinity is the largest
pub under_infinity : (x : Float) → is_nan x ≡ false → T (le x (inf false))
under_infinity x h = highest x (rw h tt)

-- what a finite number above zero is at most is that or infinity
pub rises-to : (x y : Float) → T (positive x) → T (le x y) → T (positive y) ⊎ (y ≡ inf false)
rises-to x y p h = above-is y (above_of_le x y p h)
  where
    above-is : (y : Float) → T (above y) → T (positive y) ⊎ (y ≡ inf false)
    above-is nan h = absurd h
    above-is (inf true) h = absurd h
    above-is (inf false) h = inr refl
    above-is (fin true m e) h = absurd h
    above-is (fin false m e) h = inl h

-- so the logarithm of a finite number above zero is that of its pattern
pub log_is : (x : Float) → T (positive x) → log2_of x ≡ log_of (to_bits binary32 x)
unfolding log2_of
log_is x p = let t = passed x p in rw (t.number, t.above, t.some, t.less)
