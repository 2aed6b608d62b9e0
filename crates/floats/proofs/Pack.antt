-- The bit pattern of a rounded fraction, over the format: k dropped digits and the q that is kept give k * hid + q, or an infinity's pattern where that is less.
use Rattle.std.proofs.Common.{◌≡◌, ℕ, suc, ◌+◌, ◌-◌, ◌*◌, ◌/◌, ◌%◌, ◌^◌, ◌<◌, ◌≤◌, min, Bool, true, false, cond, T, ltb, sym, refl, ap, ◌∙◌, subst, inl, inr, le_trans, le_of_eq, le_refl, lt_of_lt_of_le, lt_of_le_of_lt, lt_irrefl, mul-le-mul_right, mul_assoc, suc-mul, mul_comm, add-mul, eq-zero-or-pos, eq-or-lt_of_le, mul-lt-mul_of_pos_right, one-mul, lt_of_not-le, le-div_iff_mul-le, zero-add, not-le_of_lt, mul-div_cancel, arith, lit<, lit≤, pow_pos, pow_mono, pow-add, ltb-false, ltb-true, le-ltb, lt-ltb}
use Prim.Native.Nat.{compare}
use native.Mathlib.Nat.{div-div-eq-div-mul, pow-succ'}
use lib.Pow.{pow-lt}
use lib.Ieee.{Float, nan, inf, fin, Format, binary32, binary64, prec, emax, low, up, down, size, odd, units, round, fits, to_bits, of_bits, hid, ones, top}
use lib.Ieee.Digits.{size-lt, size-le, size_reaches}
use lib.Ieee.Fits.{two, down_pos, kept-lt, nearest-le, round_is, odd-fits}
use lib.Ieee.Bits.{of_bits-to_bits}
use lib.Ieee.Exact.{HasValue, units_val}
use lib.Ieee.Nearest.{closest, nearest-ge}
use Rattle.floats.proofs.Values.{pow_le_back}

-- ---- powers of two
pub pow_lt_back : (i p : ℕ) → 2 ^ i < 2 ^ p → i < p
pow_lt_back i p h = lt_of_not-le (λ (g : p ≤ i). lt_irrefl (2 ^ i) (lt_of_lt_of_le h (pow_mono g)))

pub size_gt : (n j : ℕ) → 2 ^ j ≤ n → j < size n
size_gt n j h = lt_of_not-le (λ (g : size n ≤ j). not-le_of_lt (lt_of_lt_of_le (size-lt n) (pow_mono g)) h)

pub size_is : (n j : ℕ) → 2 ^ j ≤ n → n < 2 ^ suc j → size n ≡ suc j
size_is n j a b = omega (arith, size_gt n j a, size-le n (suc j) b)

pub twice : (f : Format) → 2 ^ prec f ≡ 2 * hid f
twice binary32 = refl
twice binary64 = refl

-- ---- the pattern of q * 2 ^ k smallest values
to_bits_at : (f : Format) (v : Float) (n : ℕ) → HasValue v false n (2 ^ low f) → to_bits f v ≡ (size n - prec f) * hid f + n / 2 ^ (size n - prec f)
unfolding to_bits
to_bits_at f nan n h = absurd h
to_bits_at f (inf s) n h = absurd h
to_bits_at f (fin s m e) n h =
    let c : m * up e * 2 ^ low f / down e ≡ n = ap (λ (z : ℕ). z / down e) h.1 ∙ mul-div_cancel n (down_pos e) in
    ap (λ (t : Bool). cond t (top f) 0 + (size (m * up e * 2 ^ low f / down e) - prec f) * hid f + m * up e * 2 ^ low f / down e / 2 ^ (size (m * up e * 2 ^ low f / down e) - prec f)) h.0
    ∙ ap (λ (z : ℕ). 0 + (size z - prec f) * hid f + z / 2 ^ (size z - prec f)) c
    ∙ ap (λ (z : ℕ). z + n / 2 ^ (size n - prec f)) (zero-add ((size n - prec f) * hid f))

-- the digits that are dropped again
few : (f : Format) (k q : ℕ) → q < 2 ^ prec f → (0 < k → hid f ≤ q) → size (q * 2 ^ k) - prec f ≡ k
few f k q h g =
    let a : size (q * 2 ^ k) ≤ prec f + k = size-le (q * 2 ^ k) (prec f + k) (subst (λ (z : ℕ). q * 2 ^ k < z) (sym (pow-add 2 (prec f) k)) (mul-lt-mul_of_pos_right h (pow_pos k))) in
    elim (eq-zero-or-pos k) [
      | inl z ↦ omega arith
      | inr p ↦
          let b : prec f - 1 + k < size (q * 2 ^ k) = size_gt (q * 2 ^ k) (prec f - 1 + k) (subst (λ (z : ℕ). z ≤ q * 2 ^ k) (sym (pow-add 2 (prec f - 1) k)) (mul-le-mul_right (2 ^ k) (g p))) in
          omega (arith, two f)
    ]

pattern-few : (f : Format) (k q : ℕ) → size (q * 2 ^ k) - prec f ≡ k → (size (q * 2 ^ k) - prec f) * hid f + q * 2 ^ k / 2 ^ (size (q * 2 ^ k) - prec f) ≡ k * hid f + q
pattern-few f k q h = ap (λ (z : ℕ). z * hid f + q * 2 ^ k / 2 ^ z) h ∙ ap (λ (z : ℕ). k * hid f + z) (mul-div_cancel q (pow_pos k))

-- a q that has one digit too many is 2 ^ prec
full : (f : Format) (k : ℕ) → 2 ^ prec f * 2 ^ k ≡ hid f * 2 ^ suc k
full f k = ap (λ (z : ℕ). z * 2 ^ k) (twice f ∙ mul_comm 2 (hid f)) ∙ mul_assoc (hid f) 2 (2 ^ k) ∙ ap (λ (z : ℕ). hid f * z) (sym (pow-succ' 2 k))

pattern-full : (f : Format) (k n : ℕ) → n ≡ 2 ^ prec f * 2 ^ k → (size n - prec f) * hid f + n / 2 ^ (size n - prec f) ≡ k * hid f + 2 ^ prec f
pattern-full f k n e =
    let w : n ≡ hid f * 2 ^ suc k = e ∙ full f k in
    let h : size (hid f * 2 ^ suc k) - prec f ≡ suc k = few f (suc k) (hid f) (subst (λ (z : ℕ). hid f < z) (sym (twice f)) (double (hid f) (pow_pos (prec f - 1)))) (λ _. le_refl (hid f)) in
    ap (λ (z : ℕ). (size z - prec f) * hid f + z / 2 ^ (size z - prec f)) w ∙ pattern-few f (suc k) (hid f) h
    ∙ (let g : suc k * hid f ≡ k * hid f + hid f = suc-mul k (hid f) in omega (arith, twice f))
  where
    double : (x : ℕ) → 0 < x → x < 2 * x
    double x h = omega arith

pub pattern : (f : Format) (k q : ℕ) (v : Float) → q ≤ 2 ^ prec f → (0 < k → hid f ≤ q) → HasValue v false (q * 2 ^ k) (2 ^ low f) → to_bits f v ≡ k * hid f + q
pattern f k q v h g p = to_bits_at f v (q * 2 ^ k) p ∙ elim (eq-or-lt_of_le h) [
  | inl e ↦ pattern-full f k (q * 2 ^ k) (ap (λ (z : ℕ). z * 2 ^ k) e) ∙ ap (λ (z : ℕ). k * hid f + z) (sym e)
  | inr l ↦ pattern-few f k q (few f k q l g)
]

-- ---- below an infinity's pattern exactly where the value is below the overflow
pub limit : (f : Format) → low f + suc (emax f) ≡ 2 * emax f + (prec f - 1)
limit binary32 = refl
limit binary64 = refl

ones-two : (f : Format) → 2 ≤ ones f
ones-two binary32 = lit≤ tt
ones-two binary64 = lit≤ tt

-- (k + 2) * h at most o * h
scaled : (k o h : ℕ) → k + 2 ≤ o → k * h + 2 * h ≤ o * h
scaled k o h l = le_trans (le_of_eq (sym (add-mul k 2 h))) (mul-le-mul_right h l)

scaled-back : (k o h : ℕ) → o ≤ k + 2 → o * h ≤ k * h + 2 * h
scaled-back k o h l = le_trans (mul-le-mul_right h l) (le_of_eq (add-mul k 2 h))

under_inf : (f : Format) (k q : ℕ) → q ≤ 2 ^ prec f → (0 < k → hid f ≤ q) → q * 2 ^ k < 2 ^ (low f + suc (emax f)) → k * hid f + q < ones f * hid f
under_inf f k q h g l =
    let L : q * 2 ^ k < 2 ^ (2 * emax f + (prec f - 1)) = subst (λ (z : ℕ). q * 2 ^ k < 2 ^ z) (limit f) l in
    elim (eq-or-lt_of_le h) [
      | inl e ↦
          let a : prec f + k < 2 * emax f + (prec f - 1) = pow_lt_back (prec f + k) (2 * emax f + (prec f - 1)) (subst (λ (z : ℕ). z < 2 ^ (2 * emax f + (prec f - 1))) (ap (λ (z : ℕ). z * 2 ^ k) e ∙ sym (pow-add 2 (prec f) k)) L) in
          omega (arith, twice f, two f, scaled (k + 1) (ones f) (hid f) (omega (arith, two f)), suc-mul k (hid f), add-mul k 1 (hid f), pow_pos (prec f - 1))
      | inr s ↦ elim (eq-zero-or-pos k) [
        | inl z ↦ omega (arith, twice f, scaled k (ones f) (hid f) (omega (arith, ones-two f)))
        | inr p ↦
            let a : prec f - 1 + k < 2 * emax f + (prec f - 1) =
            pow_lt_back (prec f - 1 + k) (2 * emax f + (prec f - 1)) (lt_of_le_of_lt (le_trans (le_of_eq (pow-add 2 (prec f - 1) k)) (mul-le-mul_right (2 ^ k) (g p))) L) in
            omega (arith, twice f, scaled k (ones f) (hid f) (omega arith))
      ]
    ]

over_inf : (f : Format) (k q : ℕ) → q ≤ 2 ^ prec f → (0 < k → hid f ≤ q) → 2 ^ (low f + suc (emax f)) ≤ q * 2 ^ k → ones f * hid f ≤ k * hid f + q
over_inf f k q h g l =
    let L : 2 ^ (2 * emax f + (prec f - 1)) ≤ q * 2 ^ k = subst (λ (z : ℕ). 2 ^ z ≤ q * 2 ^ k) (limit f) l in
    elim (eq-or-lt_of_le h) [
      | inl e ↦
          let a : 2 * emax f + (prec f - 1) ≤ prec f + k = pow_le_back (2 * emax f + (prec f - 1)) (prec f + k) (subst (λ (z : ℕ). 2 ^ (2 * emax f + (prec f - 1)) ≤ z) (ap (λ (z : ℕ). z * 2 ^ k) e ∙ sym (pow-add 2 (prec f) k)) L) in
          omega (arith, twice f, scaled-back k (ones f) (hid f) (omega (arith, two f)))
      | inr s ↦
          let a : 2 * emax f + (prec f - 1) < prec f + k =
          pow_lt_back (2 * emax f + (prec f - 1)) (prec f + k) (lt_of_le_of_lt L (subst (λ (z : ℕ). q * 2 ^ k < z) (sym (pow-add 2 (prec f) k)) (mul-lt-mul_of_pos_right s (pow_pos k)))) in
          let K : 2 * emax f ≤ k = omega (arith, two f) in
          let b : hid f ≤ q = g (omega (arith, emax_pos f)) in
          let c : 2 * emax f * hid f ≤ k * hid f = mul-le-mul_right (hid f) K in
          omega (arith, add-mul (2 * emax f) 1 (hid f), one-mul (hid f))
    ]
  where
    emax_pos : (f : Format) → 0 < emax f
    emax_pos binary32 = lit< tt
    emax_pos binary64 = lit< tt

pub inf_pattern : (f : Format) → of_bits f (ones f * hid f) ≡ inf false
unfolding of_bits
inf_pattern binary32 = refl
inf_pattern binary64 = refl

units-fit : (f : Format) (q k : ℕ) → q ≤ 2 ^ prec f → q * 2 ^ k < 2 ^ (low f + suc (emax f)) → T (fits f (units f false q k))
unfolding units
units-fit f q k h l =
    subst (λ (t : Bool). T (fits f (cond t (odd (suc (prec f)) false q k (low f)) (inf false)))) (sym (lt-ltb (q * 2 ^ k) (2 ^ (low f + suc (emax f))) l))
    (odd-fits f (suc (prec f)) false q k (lt_of_le_of_lt h (pow-lt (le_refl (suc (prec f))))) h l)

pub units-over : (f : Format) (s : Bool) (q k : ℕ) → 2 ^ (low f + suc (emax f)) ≤ q * 2 ^ k → units f s q k ≡ inf s
unfolding units
units-over f s q k h = ap (λ (t : Bool). cond t (odd (suc (prec f)) s q k (low f)) (inf s)) (le-ltb (q * 2 ^ k) (2 ^ (low f + suc (emax f))) h)

pub units_bits : (f : Format) (k q : ℕ) → q ≤ 2 ^ prec f → (0 < k → hid f ≤ q) → of_bits f (min (k * hid f + q) (ones f * hid f)) ≡ units f false q k
units_bits f k q h g = go (ltb (q * 2 ^ k) (2 ^ (low f + suc (emax f)))) refl
  where
    go : (t : Bool) → ltb (q * 2 ^ k) (2 ^ (low f + suc (emax f))) ≡ t → of_bits f (min (k * hid f + q) (ones f * hid f)) ≡ units f false q k
    go true e =
        let l = ltb-true _ _ e in
        let u = under_inf f k q h g l in
        ap (λ (z : ℕ). of_bits f z) (min-left (k * hid f + q) (ones f * hid f) u ∙ sym (pattern f k q (units f false q k) h g (units_val f false q k l)))
        ∙ of_bits-to_bits f (units f false q k) (units-fit f q k h l)
      where
        min-left : (a b : ℕ) → a < b → min a b ≡ a
        min-left a b p = omega arith
    go false e =
        let l = ltb-false _ _ e in
        ap (λ (z : ℕ). of_bits f z) (min-right (k * hid f + q) (ones f * hid f) (over_inf f k q h g l)) ∙ inf_pattern f ∙ sym (units-over f false q k l)
      where
        min-right : (a b : ℕ) → b ≤ a → min a b ≡ b
        min-right a b p = omega arith

-- ---- `round`
pub packed : (f : Format) (a b k q : ℕ) → 0 < b → size (a * 2 ^ low f / b) - prec f ≡ k → closest (a * 2 ^ low f) (b * 2 ^ k) ≡ q
    → of_bits f (min (k * hid f + q) (ones f * hid f)) ≡ round f false a b
packed f a b k q B K Q =
    let n = a * 2 ^ low f in
    let w : n / (b * 2 ^ k) ≡ n / b / 2 ^ k = sym (div-div-eq-div-mul n b (2 ^ k)) in
    let top : q ≤ 2 ^ prec f = subst (λ (z : ℕ). z ≤ 2 ^ prec f) Q (le_trans (nearest-le (n / (b * 2 ^ k)) (compare (n % (b * 2 ^ k) * 2) (b * 2 ^ k)))
    (subst (λ (z : ℕ). suc z ≤ 2 ^ prec f) (sym (w ∙ ap (λ (z : ℕ). n / b / 2 ^ z) (sym K))) (kept-lt (prec f) (n / b)))) in
    let bottom : 0 < k → hid f ≤ q = λ p. subst (λ (z : ℕ). hid f ≤ z) Q (le_trans (subst (λ (z : ℕ). hid f ≤ z) (sym w) (lead p)) (nearest-ge (n / (b * 2 ^ k)) (compare (n % (b * 2 ^ k) * 2) (b * 2 ^ k)))) in
    units_bits f k q top bottom
    ∙ sym (round_is f false a b ∙ ap (λ (z : ℕ). units f false (closest n (b * 2 ^ z)) z) K ∙ ap (λ (z : ℕ). units f false z k) Q)
  where
    lead : 0 < k → hid f ≤ a * 2 ^ low f / b / 2 ^ k
    lead p =
        let w = a * 2 ^ low f / b in
        let z : prec f - 1 + k < size w = omega (arith, two f) in
        (le-div_iff_mul-le (pow_pos k)).1 (le_trans (le_of_eq (sym (pow-add 2 (prec f - 1) k))) (size_reaches w (prec f - 1 + k) z))
