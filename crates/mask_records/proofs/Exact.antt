-- Where the product with 10 and the sum with a half lose nothing, and what they are where the sum does.
use Prim.Native.Nat.{ℕ, suc, ◌+◌, ◌-◌, ◌*◌, ◌/◌, ◌^◌, ◌≤◌, ◌<◌}
use native.Mathlib.Nat.{le_trans, lt_of_le_of_lt, lt_of_lt_of_le, le_of_eq, mul_comm, mul_assoc, mul_right_comm, mul-one, mul-pos, mul-le-mul_right, mul-lt-mul_of_pos_right, le_of_mul-le-mul_right, eq_of_mul-eq-mul_right, pow-le-pow_right, div-eq_of_lt, div-lt_iff_lt-mul}
use native.Mathlib.Omega.{arith}
use mathlib.Core.Path.{◌≡◌, refl, sym, ap, ◌∙◌}
use mathlib.Core.Bool.{Bool, true, false, false≢true}
use lib.IntN.{ℤ, pos, negsuc}
use lib.Dec.{T}
use lib.Pow.{pow_pos, pow-add}
use lib.Ieee.{Float, nan, inf, fin, Format, binary32, binary64, prec, emax, low, up, down, round, sum, add, mul, fits, to_unsigned}
use lib.Ieee.Fits.{down_pos, reach}
use lib.Ieee.Exact.{HasValue, round_exact}
use lib.Ieee.Scale.{round_same}
use lib.Ieee.Order.{round_mono}
use lib.Ieee.Nearest.{div_mono}
use Rattle.floats.proofs.Values.{fine, steps, steps_are, pow_le_back}
use Rattle.floats_laws.proofs.Casting.{unsigned_rises}

-- ---- a fraction that is q * 2 ^ e, with few digits and not above k
module _ (f : Format) (s : Bool) (num den q : ℕ) (e : ℤ) (k : ℕ) (D : 0 < den) (deep : down e ≤ 2 ^ low f) (few : q < 2 ^ prec f) (K : k < 2 ^ prec f) (under : q * up e ≤ k * down e) (same : num * down e ≡ q * up e * den) where
  shifted : q * 2 ^ steps f e * down e ≡ q * up e * 2 ^ low f
  shifted = mul_assoc q (2 ^ steps f e) (down e) ∙ ap (λ (z : ℕ). q * z) (sym (steps_are f e deep)) ∙ sym (mul_assoc q (up e) (2 ^ low f))

  in_units : num * 2 ^ low f ≡ q * 2 ^ steps f e * den
  in_units =
      eq_of_mul-eq-mul_right (down e) (down_pos e) (num * 2 ^ low f) (q * 2 ^ steps f e * den)
      (mul_right_comm num (2 ^ low f) (down e)
      ∙ ap (λ (z : ℕ). z * 2 ^ low f) same
      ∙ mul_right_comm (q * up e) den (2 ^ low f)
      ∙ ap (λ (z : ℕ). z * den) (sym shifted)
      ∙ mul_right_comm (q * 2 ^ steps f e) (down e) den)

  bounded : q * 2 ^ steps f e < 2 ^ (low f + suc (emax f))
  bounded =
      let a : q * 2 ^ steps f e * down e ≤ k * 2 ^ low f * down e = le_trans (le_of_eq shifted) (le_trans (mul-le-mul_right (2 ^ low f) under) (le_of_eq (mul_right_comm k (down e) (2 ^ low f)))) in
      let b : k < 2 ^ suc (emax f) = lt_of_lt_of_le K (pow-le-pow_right {n = 2} (omega arith) {i = prec f} {j = suc (emax f)} (reach f)) in
      lt_of_le_of_lt (le_of_mul-le-mul_right a (down_pos e))
      (lt_of_lt_of_le (mul-lt-mul_of_pos_right b (pow_pos (low f))) (le_of_eq (mul_comm (2 ^ suc (emax f)) (2 ^ low f) ∙ sym (pow-add 2 (low f) (suc (emax f))))))

  pub exact : HasValue (round f s num den) s num den
  exact = round_exact f s num den q (steps f e) D few bounded in_units

-- ---- a * 10.0 + 0.5, for a = m * up e / down e of 24 digits and at most 60
abbrev pub ten : Float
ten = fin false 5 (pos 1)

abbrev pub half : Float
half = fin false 1 (negsuc 0)

module _ (m : ℕ) (e : ℤ) (p : T (fits binary32 (fin false m e))) (under : m * up e ≤ 60 * down e) where
  few : m < 2 ^ 24
  few = (fine binary32 false m e p).few

  deep : down e ≤ 2 ^ low binary64
  deep = le_trans (fine binary32 false m e p).deep (pow-le-pow_right {n = 2} (omega arith) {i = 149} {j = 1074} (omega arith))

  pub product : HasValue (mul binary64 (fin false m e) ten) false (m * up e * 10) (down e * 1)
  unfolding mul
  product =
      exact binary64 false (m * up e * 10) (down e * 1) (m * 10) e 600 (mul-pos (down_pos e) (pow_pos 0)) deep (omega (arith, few)) (omega arith)
      (le_trans (le_of_eq (mul_right_comm m 10 (up e))) (omega (arith, under)))
      (ap (λ (z : ℕ). z * down e) (mul_right_comm m (up e) 10) ∙ ap (λ (z : ℕ). m * 10 * up e * z) (sym (mul-one (down e))))

-- the sum, in the fraction's own terms
cross : (A D X d : ℕ) → A * (d * 1) ≡ X * 10 * D → (A * 2 + 1 * 1 * D) * (2 * d) ≡ (20 * X + d) * (D * 2)
cross A D X d h =
    let a : (A * 2 + 1 * 1 * D) * (2 * d) ≡ 4 * (A * d) + 2 * (D * d) = omega arith in
    let b : (20 * X + d) * (D * 2) ≡ 40 * (X * D) + 2 * (D * d) = omega arith in
    let c : A * d ≡ 10 * (X * D) = omega arith in
    omega arith

pub with_half : (y : Float) (X d : ℕ) → 0 < d → HasValue y false (X * 10) (d * 1) → add binary64 y half ≡ round binary64 false (20 * X + d) (2 * d)
unfolding add sum
with_half nan X d D v = absurd v
with_half (inf s) X d D v = absurd v
with_half (fin true m e) X d D v = absurd (let z : ◌≡◌ {A = Bool} true false = v.0 in false≢true (sym z))
with_half (fin false m e) X d D v =
    round_same binary64 false (m * up e * 2 + 1 * 1 * down e) (down e * 2) (20 * X + d) (2 * d) (mul-pos (down_pos e) (pow_pos 1)) (mul-pos {m = 2} {n = d} (pow_pos 1) D) (cross (m * up e) (down e) X d v.1)

-- ---- the whole part of the sum
whole_part : (y : Float) (a c : ℕ) → 0 < c → a / c < 2 ^ 53 → HasValue y false a c → to_unsigned 64 y ≡ a / c
unfolding to_unsigned
whole_part nan a c C l v = absurd v
whole_part (inf s) a c C l v = absurd v
whole_part (fin true m e) a c C l v = absurd (let z : ◌≡◌ {A = Bool} true false = v.0 in false≢true (sym z))
whole_part (fin false m e) a c C l v =
    let u = div_mono (m * up e) (down e) a c (down_pos e) C (le_of_eq v.1) in
    let w = div_mono a c (m * up e) (down e) C (down_pos e) (le_of_eq (sym v.1)) in
    omega arith

-- down e divides 2 ^ 28
cofactor : {P : Type 0} (e : ℤ) → down e ≤ 2 ^ 28 → ((c : ℕ) → down e * c ≡ 2 ^ 28 → P) → P
cofactor (pos k) h go = go (2 ^ 28) refl
cofactor (negsuc k) h go =
    let l : suc k ≤ 28 = pow_le_back (suc k) 28 h in
    go (2 ^ (28 - suc k)) (sym (pow-add 2 (suc k) (28 - suc k)) ∙ ap (λ (z : ℕ). 2 ^ z) (let b : suc k + (28 - suc k) ≡ 28 = omega arith in b))

-- with 28 binary places the sum is exact
shared : (X d c : ℕ) → d * c ≡ 2 ^ 28 → X ≤ 60 * d → X * c ≤ 60 * 2 ^ 28
shared X d c h l = le_trans (mul-le-mul_right c l) (le_of_eq (mul_assoc 60 d c ∙ ap (λ (z : ℕ). 60 * z) h))

module _ (X : ℕ) (e : ℤ) (l : X ≤ 60 * down e) where
  abbrev num : ℕ
  num = 20 * X + down e

  abbrev den : ℕ
  den = 2 * down e

  den_pos : 0 < den
  den_pos = mul-pos {m = 2} {n = down e} (pow_pos 1) (down_pos e)

  at_most : num / den < 2 ^ 53
  at_most = let g : num < 2 ^ 53 * den = omega (arith, down_pos e) in (div-lt_iff_lt-mul den_pos).1 g

  pub near-sum : down e ≤ 2 ^ 28 → to_unsigned 64 (round binary64 false num den) ≡ num / den
  near-sum h =
      cofactor e h
      (λ c w.
      let g : X * c ≤ 60 * 2 ^ 28 = shared X (down e) c w l in
      let n : num * c ≡ 20 * (X * c) + down e * c = omega arith in
      whole_part (round binary64 false num den) num den den_pos at_most
      (exact binary64 false num den (num * c) (negsuc 28) 601 den_pos (pow-le-pow_right {n = 2} (omega arith) {i = 29} {j = 1074} (omega arith)) (omega arith) (omega arith) (omega arith)
      (let v : num * (down e * c) ≡ num * 2 ^ 28 = ap (λ (z : ℕ). num * z) w in
      let u : num * c * 1 * (2 * down e) ≡ 2 * (num * (down e * c)) = omega arith in
      omega arith)))

  -- with more, it lies well below 1
  pub tiny_sum : 32 * X < down e → to_unsigned 64 (round binary64 false num den) ≡ num / den
  unfolding to_unsigned round
  tiny_sum h =
      let z : num / den ≡ 0 = div-eq_of_lt (omega arith) in
      let u = unsigned_rises 64 (round binary64 false num den) (round binary64 false 13 16) (round_mono binary64 num den 13 16 den_pos (pow_pos 4) (omega arith)) in
      omega arith
