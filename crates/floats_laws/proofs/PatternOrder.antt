-- Over the format: patterns up to the infinity's stand for values in their order, and sizes in order have patterns in order.
use Prim.Native.Nat.{ℕ, ◌+◌, ◌-◌, ◌*◌, ◌/◌, ◌^◌, ◌≤◌, ◌<◌}
use native.Mathlib.Nat.{le_trans, le_of_eq, le_of_lt, lt_of_lt_of_le, eq-or-lt_of_le, mul_comm, mul_right_comm, mul-le-mul_right, mul-lt-mul_of_pos_right, add-mul, div-lt_iff_lt-mul}
use native.Mathlib.Omega.{arith}
use mathlib.Core.Path.{◌≡◌, sym, ap, ◌∙◌, subst, subst⁻¹}
use mathlib.Core.Logic.{inl, inr}
use mathlib.Core.Bool.{Bool, false, not}
use lib.IntN.{ℤ}
use lib.Dec.{T}
use lib.Pow.{pow_pos, pow-add}
use lib.Ieee.{Float, fin, Format, prec, low, hid, ones, up, down, size, to_bits, le, is_nan, of_bits}
use lib.Ieee.Bits.{nan_bits_is}
use lib.Ieee.Digits.{size-le}
use lib.Ieee.Fits.{down_pos, kept-lt, two}
use lib.Ieee.Nearest.{div_mono}
use Rattle.floats.proofs.Narrow.{no_nan}
use Rattle.floats.proofs.Pack.{twice, inf_pattern}
use Rattle.floats_laws.proofs.Patterns.{bits_mono}
use Rattle.floats_laws.proofs.Rising.{highest}
use Rattle.floats_laws.proofs.ToBits.{mag_mono, fewer}

-- ---- patterns
pub pattern_number : (f : Format) (p : ℕ) → p ≤ ones f * hid f → T (not (is_nan (of_bits f p)))
pattern_number f p h = subst (λ (b : Bool). T (not b)) (nan_bits_is f p) (no_nan f p h)

pub patterns_rise : (f : Format) (p q : ℕ) → p ≤ q → q ≤ ones f * hid f → T (le (of_bits f p) (of_bits f q))
patterns_rise f p q h k =
    elim (eq-or-lt_of_le k) [
      | inl e ↦ subst⁻¹ (λ (z : Float). T (le (of_bits f p) z)) (ap (of_bits f) e ∙ inf_pattern f) (highest (of_bits f p) (pattern_number f p (le_trans h k)))
      | inr l ↦ bits_mono f p q h l
    ]

-- ---- a value below 2^k in size has few digits in units of the smallest value, so a small pattern
pub bits_under : (f : Format) (k m : ℕ) (e : ℤ) → m * up e < 2 ^ k * down e → to_bits f (fin false m e) < (low f + k - prec f + 2) * hid f
unfolding to_bits
bits_under f k m e h =
    let n = m * up e * 2 ^ low f / down e in
    let wide : m * up e * 2 ^ low f < 2 ^ (low f + k) * down e =
    lt_of_lt_of_le (mul-lt-mul_of_pos_right h (pow_pos (low f)))
    (le_of_eq (mul_right_comm (2 ^ k) (down e) (2 ^ low f) ∙ ap (λ (z : ℕ). z * down e) (mul_comm (2 ^ k) (2 ^ low f) ∙ sym (pow-add 2 (low f) k)))) in
    let s : size n ≤ low f + k = size-le n (low f + k) ((div-lt_iff_lt-mul (down_pos e)).1 wide) in
    sum-under (size n - prec f) (low f + k - prec f) (hid f) (n / 2 ^ (size n - prec f)) (2 ^ prec f) (fewer (size n) (low f + k) (prec f) s) (kept-lt (prec f) n) (twice f)
  where
    sum-under : (a b g r w : ℕ) → a ≤ b → r < w → w ≡ 2 * g → 0 + a * g + r < (b + 2) * g
    sum-under a b g r w l q e = omega (arith, mul-le-mul_right g l, add-mul b 2 g)

-- ---- sizes in order have patterns in order, a zero too
pub sizes_rise : (f : Format) (m : ℕ) (e : ℤ) (n : ℕ) (d : ℤ) → m * up e * down d ≤ n * up d * down e → to_bits f (fin false m e) ≤ to_bits f (fin false n d)
unfolding to_bits
sizes_rise f m e n d h =
    let a = m * up e * 2 ^ low f / down e in
    let b = n * up d * 2 ^ low f / down d in
    let l : a ≤ b =
    div_mono (m * up e * 2 ^ low f) (down e) (n * up d * 2 ^ low f) (down d) (down_pos e) (down_pos d)
    (le_trans (le_of_eq (mul_right_comm (m * up e) (2 ^ low f) (down d))) (le_trans (mul-le-mul_right (2 ^ low f) h) (le_of_eq (mul_right_comm (n * up d) (down e) (2 ^ low f))))) in
    omega (arith, mag_mono (prec f) a b (le_of_lt (two f)) l)
