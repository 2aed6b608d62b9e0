-- Words: a difference that wraps, a product that fits, and a rotation by two shifts.
use Rattle.std.proofs.Common.{◌≡◌, ℕ, zero, suc, refl, ◌+◌, ◌-◌, ◌*◌, ◌/◌, ◌%◌, ◌^◌, ◌<◌, ◌≤◌, sym, ap, ◌∙◌, subst, lt_of_le_of_lt, le_of_lt, mod-eq_of_lt, mul-le-mul_left, mul-lt-mul_of_pos_right, mul-one, div-one, arith, pow_pos, pow-add, shr_lt}
use native.Mathlib.Nat.{mul-mod_left, div-eq_of_lt}
use mathlib.Core.Path.{subst⁻¹}
use lib.Bits.{bit_or, or_self, or_shifted}
use lib.Pow.{shl-shr, mod-pow-add}
use Rattle.floats.specs.Word.{difference, rotated}

-- the number that b added to wraps back to a
pub difference-is : (a b r : ℕ) → b < 2 ^ 64 → r < 2 ^ 64 → (r + b) % 2 ^ 64 ≡ a → r ≡ difference a b
difference-is a b r h l e = omega arith

-- the product of numbers of j and k bits
pub product-fits : (j k : ℕ) {a b : ℕ} → a < 2 ^ j → b < 2 ^ k → a * b < 2 ^ (j + k)
product-fits j k {a} {b} ha hb =
    subst⁻¹ (λ (n : ℕ). a * b < n) (pow-add 2 j k)
    (lt_of_le_of_lt (mul-le-mul_left a (le_of_lt hb)) (mul-lt-mul_of_pos_right ha (pow_pos k)))

-- ---- rotation
turned_none : (x n : ℕ) → x < 2 ^ 64 → n % 64 ≡ 0 → x ≡ rotated x n
unfolding rotated
turned_none x n h e = rw (e, mul-one x, mod-eq_of_lt h, div-eq_of_lt h) (omega arith)

high_part : (x k : ℕ) → k ≤ 64 → x * 2 ^ k % 2 ^ 64 ≡ x % 2 ^ (64 - k) * 2 ^ k
high_part x k h =
    ap (λ (n : ℕ). x * 2 ^ k % 2 ^ n) (split k h) ∙ mod-pow-add (x * 2 ^ k) (64 - k) k
    ∙ ap (λ (n : ℕ). n % 2 ^ (64 - k) * 2 ^ k + x * 2 ^ k % 2 ^ k) (shl-shr x k)
    ∙ ap (λ (n : ℕ). x % 2 ^ (64 - k) * 2 ^ k + n) (mul-mod_left x (2 ^ k)) ∙ none (x % 2 ^ (64 - k) * 2 ^ k)
  where
    split : (k : ℕ) → k ≤ 64 → 64 ≡ 64 - k + k
    split k h = omega arith

    none : (n : ℕ) → n + 0 ≡ n
    none n = omega arith

under : (x n : ℕ) → x < 2 ^ 64 → 0 < n % 64 → bit_or (x * 2 ^ (n % 64) % 2 ^ 64) (x / 2 ^ (64 - n % 64)) ≡ rotated x n
unfolding rotated
under x n h p =
    let k = n % 64 in
    let l : k ≤ 64 = omega arith in
    ap (λ (y : ℕ). bit_or y (x / 2 ^ (64 - k))) (high_part x k l) ∙ or_shifted (x % 2 ^ (64 - k)) k (x / 2 ^ (64 - k)) (shr_lt k (64 - k) (subst (λ (j : ℕ). x < 2 ^ j) (split k l) h))
    ∙ ap (λ (y : ℕ). y + x / 2 ^ (64 - k)) (sym (high_part x k l))
  where
    split : (k : ℕ) → k ≤ 64 → 64 ≡ k + (64 - k)
    split k h = omega arith

-- by the two shifts, of which the second is by 64 - n % 64 places, or none
pub turned : (x n : ℕ) → x < 2 ^ 64 → bit_or (x * 2 ^ (n % 64) % 2 ^ 64) (x / 2 ^ ((64 - n % 64) % 64)) ≡ rotated x n
turned x n h = go (n % 64) refl
  where
    go : (k : ℕ) → n % 64 ≡ k → bit_or (x * 2 ^ (n % 64) % 2 ^ 64) (x / 2 ^ ((64 - n % 64) % 64)) ≡ rotated x n
    go zero e = ap (λ (k : ℕ). bit_or (x * 2 ^ k % 2 ^ 64) (x / 2 ^ ((64 - k) % 64))) e ∙ rw (mul-one x, div-one x, mod-eq_of_lt h) (or_self x) ∙ turned_none x n h e
    go (suc k) e = ap (λ (j : ℕ). bit_or (x * 2 ^ (n % 64) % 2 ^ 64) (x / 2 ^ j)) (mod-eq_of_lt (omega arith)) ∙ under x n h (omega arith)
