-- Remainders of natural numbers: a factor goes through, and powers of two by steps.
use Rattle.std.proofs.Common.{◌≡◌, ℕ, ◌+◌, ◌-◌, ◌*◌, ◌/◌, ◌%◌, ◌^◌, ◌<◌, ◌≤◌, sym, ap, ◌∙◌, mod-lt, mul_assoc, add-mul, mul-lt-mul_of_pos_right, div-add-mod', mul_right_comm, arith, pow_pos, pow-add}
use native.Mathlib.Nat.{mul-add-mod_self_right}
use lib.Arith.{digits_mod}
use lib.Ieee.Digits.{back}

-- (q * y + r) * z
opened : (q r y z : ℕ) → (q * y + r) * z ≡ q * (y * z) + r * z
opened q r y z = add-mul (q * y) r z ∙ ap (λ (n : ℕ). n + r * z) (mul_assoc q y z)

pub mod_times : (x y z : ℕ) → x % y * z % y ≡ x * z % y
mod_times x y z =
    sym
    (ap (λ (n : ℕ). n * z % y) (sym (div-add-mod' x y)) ∙ ap (λ (n : ℕ). n % y) (add-mul (x / y * y) (x % y) z ∙ ap (λ (n : ℕ). n + x % y * z) (mul_right_comm (x / y) y z))
    ∙ mul-add-mod_self_right (x / y * z) y (x % y * z))

pub mod_scaled : (x y z : ℕ) → 0 < y → 0 < z → x * z % (y * z) ≡ x % y * z
mod_scaled x y z Y Z =
    ap (λ (n : ℕ). n * z % (y * z)) (sym (div-add-mod' x y)) ∙ ap (λ (n : ℕ). n % (y * z)) (opened (x / y) (x % y) y z)
    ∙ digits_mod (x / y) (mul-lt-mul_of_pos_right (mod-lt x Y) Z)

-- ---- powers of two
pub gathered : (q j k : ℕ) → q * 2 ^ j * 2 ^ k ≡ q * 2 ^ (j + k)
gathered q j k = mul_assoc q (2 ^ j) (2 ^ k) ∙ ap (λ (n : ℕ). q * n) (sym (pow-add 2 j k))

-- s of k places taken first
pub parted : (q s k : ℕ) → s ≤ k → q * 2 ^ s * 2 ^ (k - s) ≡ q * 2 ^ k
parted q s k h = gathered q s (k - s) ∙ ap (λ (n : ℕ). q * 2 ^ n) (rest s k h)
  where
    rest : (s k : ℕ) → s ≤ k → s + (k - s) ≡ k
    rest s k h = omega arith

pub one-turn : (r n j k : ℕ) → j ≤ k → r * 2 ^ j % n * 2 ^ (k - j) % n ≡ r * 2 ^ k % n
one-turn r n j k h = mod_times (r * 2 ^ j) n (2 ^ (k - j)) ∙ ap (λ (z : ℕ). z % n) (parted r j k h)

pub places_off : (q n i j : ℕ) → j ≤ i → 0 < n → q * 2 ^ i % (n * 2 ^ j) ≡ q * 2 ^ (i - j) % n * 2 ^ j
places_off q n i j h N =
    ap (λ (z : ℕ). z % (n * 2 ^ j)) (sym (gathered q (i - j) j ∙ ap (λ (z : ℕ). q * 2 ^ z) (back i j h)))
    ∙ mod_scaled (q * 2 ^ (i - j)) n (2 ^ j) N (pow_pos j)
