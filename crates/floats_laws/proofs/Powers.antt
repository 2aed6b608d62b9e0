-- Bounds by powers of two, which a format holds far past its digits, through sums and products; and a whole number's bound through `floor`.
use Prim.Native.Nat.{ℕ, suc, ◌+◌, ◌-◌, ◌*◌, ◌/◌, ◌^◌, ◌≤◌, ◌<◌}
use native.Mathlib.Nat.{le_trans, le_of_eq, le_of_suc-le-suc, mul_comm, mul_assoc, mul-one, one-mul, add-mul, mul-mul-mul_comm, mul-pos, mul-le-mul, div-lt_iff_lt-mul}
use native.Mathlib.Omega.{arith}
use mathlib.Core.Path.{◌≡◌, sym, ap, ◌∙◌, subst}
use mathlib.Core.Bool.{Bool, true, false, cond, ◌&&◌, beq}
use lib.IntN.{pos}
use lib.Dec.{ltb, lit<}
use lib.Pow.{pow_pos, pow-add, pow-lt}
use lib.Ieee.{Float, nan, inf, fin, Format, binary32, binary64, prec, emax, low, up, down, round, add, sum, mul, of_int, unlike}
use lib.Ieee.Fits.{down_pos}
use lib.Ieee.Exact.{HasValue, round_exact}
use Rattle.floats.specs.Whole.{cut, lift, floor}
use Rattle.floats_laws.proofs.Mag.{Mag, within, round_mag}
use Rattle.floats_laws.proofs.Bounds.{chosen, scaled}

one-digit : (f : Format) → 1 < 2 ^ prec f
one-digit binary32 = lit< tt
one-digit binary64 = lit< tt

module _ (f : Format) where
  power : (j : ℕ) → j ≤ emax f → HasValue (round f false (2 ^ j) 1) false (2 ^ j) 1
  power j h =
      round_exact f false (2 ^ j) 1 1 (j + low f) (pow_pos 0) (one-digit f) (subst (λ (z : ℕ). z < 2 ^ (low f + suc (emax f))) (sym (one-mul (2 ^ (j + low f)))) (pow-lt (omega arith)))
      (sym (pow-add 2 j (low f)) ∙ sym (one-mul (2 ^ (j + low f))) ∙ sym (mul-one (1 * 2 ^ (j + low f))))

  pub under-power : (s : Bool) (a b j : ℕ) → 0 < b → j ≤ emax f → a ≤ 2 ^ j * b → Mag (round f s a b) (2 ^ j)
  under-power s a b j B J h = round_mag f s a b (2 ^ j) 1 (2 ^ j) B (pow_pos 0) (le_trans (le_of_eq (mul-one a)) h) (power j J)

  -- ---- sums
  twice : (a b c j : ℕ) → a ≤ 2 ^ j * c → b ≤ 2 ^ j * c → a + b ≤ 2 ^ suc j * c
  twice a b c j h g = le_trans (le_of_two a b (2 ^ j * c) h g) (le_of_eq (sym (mul_assoc 2 (2 ^ j) c) ∙ ap (λ (z : ℕ). z * c) (sym (pow-add 2 1 j)) ∙ ap (λ (z : ℕ). 2 ^ z * c) one_more))
    where
      one_more : 1 + j ≡ suc j
      one_more = omega arith

      le_of_two : (a b k : ℕ) → a ≤ k → b ≤ k → a + b ≤ 2 * k
      le_of_two a b k h g = omega arith

  sum-power : (s t : Bool) (a b c j : ℕ) → 0 < c → suc j ≤ emax f → a ≤ 2 ^ j * c → b ≤ 2 ^ j * c → Mag (sum f s a t b c) (2 ^ suc j)
  unfolding sum
  sum-power s t a b c j C J h g =
      chosen (λ z. Mag z (2 ^ suc j)) (beq s t) (round f s (a + b) c) (cond (ltb a b) (round f t (b - a) c) (round f (s && ltb b a) (a - b) c)) (part s (a + b) (omega arith))
      (chosen (λ z. Mag z (2 ^ suc j)) (ltb a b) (round f t (b - a) c) (round f (s && ltb b a) (a - b) c) (part t (b - a) (omega arith)) (part (s && ltb b a) (a - b) (omega arith)))
    where
      part : (r : Bool) (x : ℕ) → x ≤ a + b → Mag (round f r x c) (2 ^ suc j)
      part r x l = under-power r x c (suc j) C J (le_trans l (twice a b c j h g))

  pub add_power : (x y : Float) (j : ℕ) → suc j ≤ emax f → Mag x (2 ^ j) → Mag y (2 ^ j) → Mag (add f x y) (2 ^ suc j)
  unfolding add
  add_power nan y j J h g = absurd h
  add_power (inf s) y j J h g = absurd h
  add_power (fin s m e) nan j J h g = absurd g
  add_power (fin s m e) (inf t) j J h g = absurd g
  add_power (fin s m e) (fin t n d) j J h g =
      sum-power s t (m * up e * down d) (n * up d * down e) (down e * down d) j (mul-pos (down_pos e) (down_pos d)) J (scaled (m * up e) (down e) (down d) (2 ^ j) h)
      (le_trans (scaled (n * up d) (down d) (down e) (2 ^ j) g) (le_of_eq (ap (λ (z : ℕ). 2 ^ j * z) (mul_comm (down d) (down e)))))

  -- ---- products
  pub mul_power : (x y : Float) (i j : ℕ) → i + j ≤ emax f → Mag x (2 ^ i) → Mag y (2 ^ j) → Mag (mul f x y) (2 ^ (i + j))
  unfolding mul
  mul_power nan y i j J h g = absurd h
  mul_power (inf s) y i j J h g = absurd h
  mul_power (fin s m e) nan i j J h g = absurd g
  mul_power (fin s m e) (inf t) i j J h g = absurd g
  mul_power (fin s m e) (fin t n d) i j J h g =
      under-power (unlike s t) (m * up e * (n * up d)) (down e * down d) (i + j) (mul-pos (down_pos e) (down_pos d)) J
      (le_trans (mul-le-mul h g) (le_of_eq (mul-mul-mul_comm (2 ^ i) (down e) (2 ^ j) (down d) ∙ ap (λ (z : ℕ). z * (down e * down d)) (sym (pow-add 2 i j)))))

  -- ---- whole numbers
  pub of_power : (n j : ℕ) → j ≤ emax f → n ≤ 2 ^ j → Mag (of_int f (pos n)) (2 ^ j)
  unfolding of_int
  of_power n j J h = under-power false n 1 j (pow_pos 0) J (le_trans h (le_of_eq (sym (mul-one (2 ^ j)))))

  cut_most : (a d k : ℕ) → 0 < d → a < suc k * d → a / d ≤ k
  cut_most a d k D h = le_of_suc-le-suc ((div-lt_iff_lt-mul D).1 h)

  pub floor_mag : (x : Float) (k : ℕ) → k ≤ 2 ^ prec f → Mag x k → Mag (floor f x) k
  unfolding floor
  floor_mag nan k K h = h
  floor_mag (inf s) k K h = h
  floor_mag (fin false m e) k K h = within f false (cut m e) 1 k (pow_pos 0) K (le_trans (cut_most (m * up e) (down e) k (down_pos e) (less (m * up e) (down e) (down_pos e) h)) (le_of_eq (sym (mul-one k))))
    where
      less : (a d : ℕ) → 0 < d → a ≤ k * d → a < suc k * d
      less a d D h = omega (arith, add-mul 1 k d)
  floor_mag (fin true m e) k K h = within f true (lift m e) 1 k (pow_pos 0) K (le_trans (cut_most (m * up e + (down e - 1)) (down e) k (down_pos e) (less (m * up e) (down e) (down_pos e) h)) (le_of_eq (sym (mul-one k))))
    where
      less : (a d : ℕ) → 0 < d → a ≤ k * d → a + (d - 1) < suc k * d
      less a d D h = omega (arith, add-mul 1 k d)
