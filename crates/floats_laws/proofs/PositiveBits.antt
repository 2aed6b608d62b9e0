-- The patterns of the finite values above zero, over the format: they lie from 1 to below an infinity's, and each pattern there is one's.
use mathlib.Core.Path.{◌≡◌, refl, sym, subst, subst⁻¹}
use mathlib.Core.Bool.{true, false}
use Prim.Native.Nat.{ℕ, zero, suc, ◌+◌, ◌-◌, ◌*◌, ◌/◌, ◌%◌, ◌^◌, ◌≤◌, ◌<◌}
use native.Mathlib.Nat.{le_trans, le_of_eq, lt_of_lt_of_le, mul-le-mul_right, mul-pos, div-one, one-mul, zero-mul, zero-lt-suc, add-mul, div-add-mod', le-div_iff_mul-le}
use native.Mathlib.Omega.{arith}
use lib.Dec.{T, ltb→lt}
use lib.Pow.{pow_pos}
use lib.Ieee.{Float, nan, inf, fin, Format, binary32, binary64, prec, emax, low, hid, ones, up, down, size, fits, to_bits, of_bits}
use lib.Ieee.Digits.{size-le}
use lib.Ieee.Fits.{kept-lt, up_pos, down_pos}
use lib.Ieee.Positive.{positive, positive_of_value}
use Rattle.floats.proofs.Values.{fine}
use Rattle.floats_laws.proofs.Keys.{mag_under}
use Rattle.floats.proofs.Pack.{twice}
use Rattle.floats_laws.proofs.Patterns.{bits_value, val}
use Rattle.floats_laws.proofs.ToBits.{bits_are}

-- below an infinity: k digits are dropped, at most 2 * emax - 1
limit : (f : Format) → low f + suc (emax f) - prec f + 2 ≡ ones f
limit binary32 = refl
limit binary64 = refl

under : (k q h o : ℕ) → k + 2 ≤ o → q < 2 * h → k * h + q < o * h
under k q h o l p = lt_of_lt_of_le (more (k * h) q h (2 * h) p) (le_trans (le_of_eq (sym (add-mul k 2 h))) (mul-le-mul_right h l))
  where
    more : (a q h b : ℕ) → q < b → a + q < a + b
    more a q h b p = omega arith

fewer : (z a p o : ℕ) → z ≤ a → a - p + 2 ≡ o → z - p + 2 ≤ o
fewer z a p o h e = omega arith

-- some digit is kept
some : (n k h : ℕ) → 0 < n → 0 < h → 0 < k * h + n / 2 ^ k
some n zero h p q = subst⁻¹ (λ (z : ℕ). 0 < 0 * h + z) (div-one n) (past (0 * h) n p)
  where
    past : (a n : ℕ) → 0 < n → 0 < a + n
    past a n p = omega arith
some n (suc k) h p q = past (suc k * h) (n / 2 ^ suc k) (mul-pos (zero-lt-suc k) q)
  where
    past : (a b : ℕ) → 0 < a → 0 < a + b
    past a b p = omega arith

val_pos : (h x t b : ℕ) → 0 < h → 0 < b → x * h + t ≡ b → 0 < val h x t
val_pos h zero t b H p e = mul-pos (just t b p e) (pow_pos 0)
  where
    just : (t b : ℕ) → 0 < b → 0 * h + t ≡ b → 0 < t
    just t b p e = omega (arith, zero-mul h)
val_pos h (suc x) t b H p e = mul-pos (past h t H) (pow_pos x)
  where
    past : (a b : ℕ) → 0 < a → 0 < a + b
    past a b p = omega arith

module _ (f : Format) where
  pub positive-under : (x : Float) → T (fits f x) → T (positive x) → to_bits f x < ones f * hid f
  positive-under nan h p = absurd p
  positive-under (inf s) h p = absurd p
  positive-under (fin true m e) h p = absurd p
  positive-under (fin false m e) h p =
      let n = m * up e * 2 ^ low f / down e in
      rw (bits_are f (fin false m e) p)
      (under (size n - prec f) (n / 2 ^ (size n - prec f)) (hid f) (ones f) (fewer (size n) (low f + suc (emax f)) (prec f) (ones f) (size-le n (low f + suc (emax f)) (mag_under f false m e h)) (limit f))
      (subst (λ (z : ℕ). n / 2 ^ (size n - prec f) < z) (twice f) (kept-lt (prec f) n)))

  pub positive-above : (x : Float) → T (fits f x) → T (positive x) → 0 < to_bits f x
  positive-above nan h p = absurd p
  positive-above (inf s) h p = absurd p
  positive-above (fin true m e) h p = absurd p
  positive-above (fin false m e) h p =
      let n = m * up e * 2 ^ low f / down e in
      rw (bits_are f (fin false m e) p)
      (some n (size n - prec f) (hid f)
      ((le-div_iff_mul-le (down_pos e)).1 (le_trans (le_of_eq (one-mul (down e))) (le_trans (fine f false m e h).deep (le_trans (le_of_eq (sym (one-mul (2 ^ low f)))) (mul-le-mul_right (2 ^ low f) (mul-pos (ltb→lt 0 m p) (up_pos e)))))))
      (pow_pos (prec f - 1)))

  pub pattern-positive : (b : ℕ) → 0 < b → b < ones f * hid f → T (positive (of_bits f b))
  pattern-positive b p h = positive_of_value (of_bits f b) (val (hid f) (b / hid f) (b % hid f)) (2 ^ low f) (bits_value f b h) (val_pos (hid f) (b / hid f) (b % hid f) b (pow_pos (prec f - 1)) p (div-add-mod' b (hid f)))
