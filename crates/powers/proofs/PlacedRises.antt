-- `placed` never falls, over its constants: not as the digits rise under one exponent, nor from one exponent to a higher one. So one law serves both widths.
use Rattle.std.proofs.Common.{◌≡◌, ℕ, ◌+◌, ◌-◌, ◌*◌, ◌/◌, ◌^◌, ◌<◌, ◌≤◌, min, sym, ap, ◌∙◌, inl, inr, le_trans, le_of_eq, add-zero, mul-le-mul_right, mul_assoc, add-mul, mul-le-mul_left, one-mul, div-le_self, div-one, arith}
use mathlib.Core.Path.{subst⁻¹}
use native.Mathlib.Nat.{mul-add-div_right, div-eq_of_lt}
use lib.Pow.{shr_mono}
use Rattle.floats_laws.proofs.Naturals.{le_or_lt, sum-rises, div_rises, shifted-less}
use Rattle.powers.specs.Placed.{placed}
use Rattle.powers.proofs.PlacedAt.{near}

min-rises : (z : ℕ) {x y : ℕ} → x ≤ y → min x z ≤ min y z
min-rises z h = omega arith

module _ (hid half infinity k : ℕ) (H : 0 < half) where
  near-rises : {a b : ℕ} → a ≤ b → near half a ≤ near half b
  near-rises h = div_rises (omega arith) (omega arith)

  -- the leading digit alone, and twice it, are not rounded
  near-whole : (h : ℕ) → near half (h * (2 * half)) ≡ h
  near-whole h = whole (2 * half) half (omega arith) (omega arith)
    where
      whole : (d r : ℕ) → 0 < d → r < d → (h * d + r) / d ≡ h
      whole d r D R = mul-add-div_right D h r ∙ ap (λ (z : ℕ). h + z) (div-eq_of_lt R) ∙ add-zero h

  module _ (n m n' m' : ℕ) (M : m ≤ 2 * (hid * (2 * half))) (M' : hid * (2 * half) ≤ m') where
    near-top : near half (m / 2 ^ (k - n)) ≤ 2 * hid
    near-top = le_trans (near-rises (le_trans (div-le_self m (2 ^ (k - n))) M)) (le_of_eq (ap (near half) (sym (mul_assoc 2 hid (2 * half))) ∙ near-whole (2 * hid)))

    near_bottom : k - n' ≡ 0 → hid ≤ near half (m' / 2 ^ (k - n'))
    near_bottom e = le_trans (le_of_eq (sym (near-whole hid))) (near-rises (subst⁻¹ (λ (z : ℕ). hid * (2 * half) ≤ m' / 2 ^ z) e (subst⁻¹ (λ (z : ℕ). hid * (2 * half) ≤ z) (div-one m') M')))

    below_field : n < n' → n' ≤ k → (n - k) * hid + near half (m / 2 ^ (k - n)) ≤ (n' - k) * hid + near half (m' / 2 ^ (k - n'))
    below_field l h =
        let a : n - k ≡ 0 = omega arith in
        let b : n' - k ≡ 0 = omega arith in
        rw (a, b) (sum-rises (0 * hid) (near-rises (shifted-less m m' (k - n) (k - n') (le_trans M (mul-le-mul_left 2 M')) (omega arith))))

    above-field : n < n' → k < n' → (n - k) * hid + near half (m / 2 ^ (k - n)) ≤ (n' - k) * hid + near half (m' / 2 ^ (k - n'))
    above-field l h =
        let e : k - n' ≡ 0 = omega arith in
        let step : (n - k + 1) * hid ≤ (n' - k) * hid = mul-le-mul_right hid (omega arith) in
        omega (arith, near-top, near_bottom e, step, add-mul (n - k) 1 hid, one-mul hid)

    pub placed_climbs : n < n' → placed hid half infinity k n m ≤ placed hid half infinity k n' m'
    unfolding placed
    placed_climbs l = elim (le_or_lt n' k) [ inl h ↦ min-rises infinity (below_field l h) | inr h ↦ min-rises infinity (above-field l h) ]

  pub placed-rises : (n : ℕ) {m m' : ℕ} → m ≤ m' → placed hid half infinity k n m ≤ placed hid half infinity k n m'
  unfolding placed
  placed-rises n h = min-rises infinity (sum-rises ((n - k) * hid) (near-rises (shr_mono (k - n) h)))

pub placed-under : (hid half infinity k n m : ℕ) → placed hid half infinity k n m ≤ infinity
unfolding placed
placed-under hid half infinity k n m = low ((n - k) * hid + (m / 2 ^ (k - n) + half) / (2 * half))
  where
    low : (x : ℕ) → min x infinity ≤ infinity
    low x = omega arith
