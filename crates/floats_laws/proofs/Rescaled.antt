-- One value as two fractions, and products with powers of two that are the same number.
use mathlib.Core.Path.{◌≡◌, sym, ap, ◌∙◌}
use Prim.Native.Nat.{ℕ, ◌+◌, ◌*◌, ◌^◌, ◌<◌}
use native.Mathlib.Nat.{mul_right_comm, eq_of_mul-eq-mul_right}
use mathlib.Core.Bool.{Bool}
use lib.Ieee.{Float, nan, inf, fin, up, down}
use lib.Ieee.Exact.{HasValue}
use lib.Ieee.Fits.{down_pos}
use Rattle.floats.proofs.Residues.{gathered}

pub rescale : (x : Float) (s : Bool) (a c b d : ℕ) → 0 < c → b * c ≡ a * d → HasValue x s a c → HasValue x s b d
rescale nan s a c b d p h v = v
rescale (inf t) s a c b d p h v = v
rescale (fin t m e) s a c b d p h v = (
  v.0,
  eq_of_mul-eq-mul_right c p (m * up e * d) (b * down e)
      (mul_right_comm (m * up e) d c
      ∙ ap (λ (x : ℕ). x * d) v.1
      ∙ mul_right_comm a (down e) d
      ∙ ap (λ (x : ℕ). x * down e) (sym h)
      ∙ mul_right_comm b c (down e)),
)

-- one value over one denominator has one numerator
pub one_value : (x : Float) (s : Bool) (a b c : ℕ) → HasValue x s a c → HasValue x s b c → a ≡ b
one_value nan s a b c v w = absurd v
one_value (inf t) s a b c v w = absurd v
one_value (fin t m e) s a b c v w = eq_of_mul-eq-mul_right (down e) (down_pos e) a b (sym v.1 ∙ w.1)

pub powers_move : (a i j k l : ℕ) → i + j ≡ k + l → a * 2 ^ i * 2 ^ j ≡ a * 2 ^ k * 2 ^ l
powers_move a i j k l e = gathered a i j ∙ ap (λ (z : ℕ). a * 2 ^ z) e ∙ sym (gathered a k l)
