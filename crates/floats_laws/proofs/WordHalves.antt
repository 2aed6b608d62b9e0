-- A product of words by halves: the upper halves' product lies past the word.
use Rattle.std.proofs.Common.{◌≡◌, ℕ, ◌+◌, ◌*◌, ◌/◌, ◌%◌, sym, ap, ◌∙◌, mul_assoc, mul_comm, add-mul, div-add-mod', mul-add, mul_left_comm, arith}
use native.Mathlib.Nat.{add-mod, mul-add-mod_self_right}

module _ (h : ℕ) where
  -- s times h, but for whole multiples of h * h
  drops : (s c : ℕ) → (s % h * h + c) % (h * h) ≡ (s * h + c) % (h * h)
  drops s c =
      sym
      (ap (λ (n : ℕ). (n * h + c) % (h * h)) (sym (div-add-mod' s h))
      ∙ ap (λ (n : ℕ). n % (h * h)) (regroup (s / h) (s % h) c)
      ∙ mul-add-mod_self_right (s / h) (h * h) (s % h * h + c))
    where
      regroup : (q r c : ℕ) → (q * h + r) * h + c ≡ q * (h * h) + (r * h + c)
      regroup q r c = omega (arith, add-mul (q * h) r h, mul_assoc q h h)

  pub by_halves : (a b : ℕ) → ((a / h * (b % h) % h + a % h * (b / h) % h) % h * h + a % h * (b % h)) % (h * h) ≡ a * b % (h * h)
  by_halves a b =
      ap (λ (n : ℕ). (n * h + a % h * (b % h)) % (h * h)) (sym (add-mod (a / h * (b % h)) (a % h * (b / h)) h))
      ∙ drops (a / h * (b % h) + a % h * (b / h)) (a % h * (b % h))
      ∙ sym
      (ap (λ (n : ℕ). n * b % (h * h)) (sym (div-add-mod' a h)) ∙ ap (λ (n : ℕ). (a / h * h + a % h) * n % (h * h)) (sym (div-add-mod' b h))
      ∙ ap (λ (n : ℕ). n % (h * h)) (spread (a / h) (a % h) (b / h) (b % h))
      ∙ mul-add-mod_self_right (a / h * (b / h)) (h * h) ((a / h * (b % h) + a % h * (b / h)) * h + a % h * (b % h)))
    where
      spread : (p q r s : ℕ) → (p * h + q) * (r * h + s) ≡ p * r * (h * h) + ((p * s + q * r) * h + q * s)
      spread p q r s = simp (add-mul, mul-add, mul_assoc, mul_comm, mul_left_comm) (omega arith)
