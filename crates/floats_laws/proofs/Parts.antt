-- Floats as whole numbers of parts: from 2^k on, a value of a format with k + j + 1 digits is a whole number of 2^j-ths.
use Prim.Native.Nat.{ℕ, suc, ◌+◌, ◌-◌, ◌*◌, ◌^◌, ◌≤◌, ◌<◌}
use native.Mathlib.Nat.{le_trans, le_of_eq, lt_of_le_of_lt, lt_of_lt_of_le, lt_of_not-le, lt_irrefl, mul_assoc, mul-one}
use native.Mathlib.Omega.{arith}
use mathlib.Core.Path.{◌≡◌, refl, sym, ap, ◌∙◌}
use mathlib.Core.Bool.{true, false}
use lib.IntN.{pos, negsuc}
use lib.Dec.{T}
use lib.Pow.{pow-add, pow_mono}
use lib.Ieee.{Float, nan, inf, fin, Format, prec, fits}
use lib.Ieee.Digits.{back}
use lib.Ieee.Exact.{HasValue}
use Rattle.floats.proofs.Values.{fine}
use Rattle.floats_laws.proofs.Fractions.{Above}

-- an m that is at least 2^k * 2^i, and below 2^(k + j + 1), leaves i at most j
few : (m k i j p : ℕ) → suc (k + j) ≡ p → 2 ^ k * 2 ^ i ≤ m → m < 2 ^ p → i ≤ j
few m k i j p e a h =
    let under : 2 ^ (k + i) < 2 ^ p = lt_of_le_of_lt (le_trans (le_of_eq (pow-add 2 k i)) a) h in
    let less : k + i < p = lt_of_not-le (λ (g : p ≤ k + i). lt_irrefl (2 ^ (k + i)) (lt_of_lt_of_le under (pow_mono {i = p} {j = k + i} g))) in
    omega (arith, less, e)

pub whole_parts : (f : Format) (x : Float) (k j : ℕ) → suc (k + j) ≡ prec f → T (fits f x) → Above x (2 ^ k) → (n : ℕ) × HasValue x false n (2 ^ j)
whole_parts f nan k j e t a = absurd a
whole_parts f (inf s) k j e t a = absurd a
whole_parts f (fin true m d) k j e t a = absurd a
whole_parts f (fin false m (pos i)) k j e t a = (m * 2 ^ i * 2 ^ j, (refl, sym (mul-one (m * 2 ^ i * 2 ^ j))))
whole_parts f (fin false m (negsuc i)) k j e t a =
    let most : suc i ≤ j = few m k (suc i) j (prec f) e (le_trans a (le_of_eq (mul-one m))) (fine f false m (negsuc i) t).few in (
      m * 2 ^ (j - suc i),
      (
        refl,
        ap (λ (z : ℕ). z * 2 ^ j) (mul-one m)
            ∙ ap (λ (z : ℕ). m * 2 ^ z) (sym (back j (suc i) most))
            ∙ ap (λ (z : ℕ). m * z) (pow-add 2 (j - suc i) (suc i))
            ∙ sym (mul_assoc m (2 ^ (j - suc i)) (2 ^ suc i)),
      ),
    )
