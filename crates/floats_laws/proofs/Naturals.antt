-- Natural numbers: one of two is not above the other, and sums and quotients keep the order.
use mathlib.Core.Path.{sym, ap, ◌∙◌}
use mathlib.Core.Logic.{◌⊎◌, ⊎_elim, inl, inr}
use Prim.Native.Nat.{ℕ, zero, suc, zero-le, suc-le-suc, ◌+◌, ◌*◌, ◌/◌, ◌^◌, ◌≤◌, ◌<◌}
use native.Mathlib.Nat.{le_trans, le_of_eq, mul_assoc, mul_comm, mul-le-mul_right, mul-le-mul_left, pow-succ'}
use native.Mathlib.Omega.{arith}
use lib.Pow.{pow_pos, pow_mono}
use lib.Ieee.Nearest.{div_mono}

pub le_or_lt : (a b : ℕ) → (a ≤ b) ⊎ (b < a)
le_or_lt zero b = inl zero-le
le_or_lt (suc a) zero = inr (suc-le-suc zero-le)
le_or_lt (suc a) (suc b) = ⊎_elim (λ p. inl (suc-le-suc p)) (λ q. inr (suc-le-suc q)) (le_or_lt a b)

pub sum-rises : (k : ℕ) {a b : ℕ} → a ≤ b → k + a ≤ k + b
sum-rises k h = omega arith

pub div_rises : {a b d : ℕ} → 0 < d → a ≤ b → a / d ≤ b / d
div_rises {a} {b} {d} D h = div_mono a d b d D D (mul-le-mul_right d h)

-- a number at most twice another, shifted one place further at least, is not above it
pub shifted-less : (m m' i j : ℕ) → m ≤ 2 * m' → j < i → m / 2 ^ i ≤ m' / 2 ^ j
shifted-less m m' i j h l =
    div_mono m (2 ^ i) m' (2 ^ j) (pow_pos i) (pow_pos j)
    (le_trans (mul-le-mul_right (2 ^ j) h)
    (le_trans (le_of_eq (ap (λ (z : ℕ). z * 2 ^ j) (mul_comm 2 m') ∙ mul_assoc m' 2 (2 ^ j) ∙ ap (λ (z : ℕ). m' * z) (sym (pow-succ' 2 j)))) (mul-le-mul_left m' (pow_mono l))))
