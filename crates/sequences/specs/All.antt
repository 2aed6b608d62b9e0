-- A test that passes at each number below a bound.
use Rattle.std.specs.Prelude.{◌≡◌, refl, Bool, true, ◌&&◌, ℕ, zero, suc, ◌<◌, T}
use Rattle.std.proofs.Math.Path.{subst⁻¹}
use Rattle.std.proofs.Common.{inl, inr, le_refl, not-suc-le-zero, le_of_suc-le-suc, eq-or-lt_of_le, arith}
use Rattle.std.specs.Float.Ieee.Fits.{and_l, and_r, and_i}

abbrev pub all : (ℕ → Bool) → ℕ → Bool
all f zero = true
all f (suc n) = all f n && f n

pub all-at : (f : ℕ → Bool) (n : ℕ) → T (all f n) → (k : ℕ) → k < n → T (f k)
all-at f zero t k h = absurd (not-suc-le-zero h)
all-at f (suc n) t k h = elim (eq-or-lt_of_le (le_of_suc-le-suc h)) [
  | inl e ↦ subst⁻¹ (λ (m : ℕ). T (f m)) e (and_r (all f n) (f n) t)
  | inr l ↦ all-at f n (and_l (all f n) (f n) t) k l
]

pub all_of : (f : ℕ → Bool) (n : ℕ) → ((k : ℕ) → k < n → T (f k)) → T (all f n)
all_of f zero h = tt
all_of f (suc n) h = and_i (all f n) (f n) (all_of f n (λ k l. h k (omega arith))) (h n (le_refl (suc n)))

-- a test that agrees with another at each of them passes where that does
pub all_same : (f g : ℕ → Bool) (n : ℕ) → ((k : ℕ) → k < n → f k ≡ g k) → all f n ≡ all g n
all_same f g zero h = refl
all_same f g (suc n) h = rw (all_same f g n (λ k l. h k (omega arith)), h n (le_refl (suc n)))

pub all_true : (f : ℕ → Bool) (n : ℕ) → ((k : ℕ) → k < n → f k ≡ true) → all f n ≡ true
all_true f zero h = refl
all_true f (suc n) h = rw (all_true f n (λ k l. h k (omega arith)), h n (le_refl (suc n)))
