-- `round` is IEEE 754's rounding to nearest with ties to even, over the format: no value of the format lies nearer to the fraction, of two that lie as near the even one is taken, and an infinity comes exactly where IEEE 754 says.
use Prim.Native.Nat.{ℕ, suc, ◌+◌, ◌-◌, ◌*◌, ◌/◌, ◌%◌, ◌^◌, ◌≤◌, ◌<◌, compare}
use native.Mathlib.Nat.{le_trans, le_of_eq, lt_of_le_of_lt, lt_of_lt_of_le, not-le_of_lt, mul_assoc, mul_comm, mul_left_comm, mul-pos, one-mul, add-mul, mul-lt-mul_of_pos_left, mul-le-mul_right, mul-le-mul_left, mul-lt-mul_of_pos_right, le_of_mul-le-mul_right, le-div_iff_mul-le, div-lt_iff_lt-mul, div-mul-le_self, div-div-eq-div-mul, mul-div_cancel, pow-succ', le_antisymm, suc-mul, eq_of_mul-eq-mul_right}
use native.Mathlib.Omega.{arith}
use mathlib.Core.Path.{◌≡◌, refl, sym, ap, ◌∙◌, subst}
use mathlib.Core.Logic.{◌⊎◌, inl, inr}
use mathlib.Core.Bool.{Bool, true, false}
use lib.IntN.{ℤ, pos}
use lib.Dec.{T, ltb}
use lib.Pow.{pow-add, pow_pos, pow_mono, pow-lt}
use lib.Ieee.{Float, nan, inf, fin, Format, binary32, binary64, prec, emax, low, hid, top, up, down, size, units, round, of_int, to_bits, fits}
use lib.Ieee.Digits.{size-lt, size_reaches}
use lib.Ieee.Fits.{two, down_pos, round_is, nearest-le, kept-lt}
use lib.Ieee.Exact.{HasValue, units_val}
use lib.Ieee.Nearest.{closest, nearest-ge}
use lib.Ieee.Scale.{finite}
use borrow.Author.Tests.{ltb-true, ltb-false}
use Rattle.floats.specs.Convert.{convert, units_in, apart, Nearest, Rounded}
use Rattle.floats.proofs.Values.{fine, steps}
use Rattle.floats.proofs.Pack.{pattern, units-over, twice}
use Rattle.floats_laws.proofs.Keys.{mag_is}
use Rattle.floats.proofs.Sign.{negative_is}
use Rattle.sequences.specs.Pick.{by-case}
use Rattle.floats_laws.proofs.Close.{Close, close, close_least, close_tie, eq_or_lt}

-- ---- the largest step of a format is 2 ^ widest of its smallest values
abbrev widest : Format → ℕ
widest f = 2 * emax f - 1

places : (f : Format) → low f + suc (emax f) ≡ prec f + widest f
places binary32 = refl
places binary64 = refl

spans : (f : Format) → emax f + low f ≡ widest f + (prec f - 1)
spans binary32 = refl
spans binary64 = refl

even-weight : (f : Format) (x : ℕ) → (x * hid f) % 2 ≡ 0
even-weight binary32 x = omega arith
even-weight binary64 x = omega arith

odd_out : (x y : ℕ) → x % 2 ≡ 0 → (x + y) % 2 ≡ y % 2
odd_out x y h = omega arith

even-top : (f : Format) → top f % 2 ≡ 0
even-top binary32 = refl
even-top binary64 = refl

-- ---- the values of a format, beside a / b: k digits are dropped, q are kept
module _ (f : Format) (s : Bool) (a b : ℕ) (B : 0 < b) where
  abbrev n : ℕ
  n = a * 2 ^ low f

  abbrev k : ℕ
  k = size (n / b) - prec f

  abbrev u : ℕ
  u = b * 2 ^ k

  abbrev q : ℕ
  q = closest n u

  u_pos : 0 < u
  u_pos = mul-pos B (pow_pos k)

  kept : Close n u q
  kept = close n u u_pos

  -- where digits are dropped, all the others are in use
  lead : 0 < k → hid f * u ≤ n
  lead p =
      let z : prec f - 1 + k < size (n / b) = omega (arith, two f) in
      let g : hid f * 2 ^ k ≤ n / b = le_trans (le_of_eq (sym (pow-add 2 (prec f - 1) k))) (size_reaches (n / b) (prec f - 1 + k) z) in
      le_trans (le_of_eq (ap (λ (x : ℕ). hid f * x) (mul_comm b (2 ^ k)) ∙ sym (mul_assoc (hid f) (2 ^ k) b))) (le_trans (mul-le-mul_right b g) (div-mul-le_self n b))

  quotient : n / u ≡ n / b / 2 ^ k
  quotient = sym (div-div-eq-div-mul n b (2 ^ k))

  most : q ≤ 2 ^ prec f
  most =
      le_trans (nearest-le (n / u) (compare (n % u * 2) u))
      (subst (λ (z : ℕ). suc z ≤ 2 ^ prec f) (sym quotient) (kept-lt (prec f) (n / b)))

  full : 0 < k → hid f ≤ q
  full p = le_trans ((le-div_iff_mul-le u_pos).1 (lead p)) (nearest-ge (n / u) (compare (n % u * 2) u))

  -- a value of the format: a multiple of 2 ^ k, or below every number that drops k digits
  abbrev Placed : ℕ → Type 0
  Placed z = ((t : ℕ) × (z * b ≡ t * u)) ⊎ ((0 < k) × (z * b < hid f * u))

  multiple : (m j : ℕ) → k ≤ j → m * 2 ^ j * b ≡ m * 2 ^ (j - k) * u
  multiple m j h = ap (λ (x : ℕ). m * x * b) (ap (λ (i : ℕ). 2 ^ i) (back j h) ∙ pow-add 2 (j - k) k) ∙ shift m (2 ^ (j - k)) (2 ^ k) b
    where
      back : (j : ℕ) → k ≤ j → j ≡ j - k + k
      back j h = omega arith

      shift : (m x y b : ℕ) → m * (x * y) * b ≡ m * x * (b * y)
      shift m x y b = simp (mul_assoc, mul_comm, mul_left_comm)

  smaller : (m j : ℕ) → m < 2 ^ prec f → j < k → m * 2 ^ j * b < hid f * u
  smaller m j h l =
      lt_of_lt_of_le (mul-lt-mul_of_pos_right (mul-lt-mul_of_pos_right h (pow_pos j)) B)
      (le_trans (mul-le-mul_right b (le_trans (le_of_eq (sym (pow-add 2 (prec f) j))) (le_trans (pow_mono (omega (arith, two f))) (le_of_eq (pow-add 2 (prec f - 1) k)))))
      (le_of_eq (mul_assoc (hid f) (2 ^ k) b ∙ ap (λ (x : ℕ). hid f * x) (mul_comm (2 ^ k) b))))

  placed : (z : Float) → T (fits f z) → T (finite z) → Placed (units_in f z)
  placed nan p c = absurd c
  placed (inf t) p c = absurd c
  placed (fin t m e) p c =
      subst Placed (sym (mag_is f t m e p))
      (by-case (ltb (steps f e) k) (λ h. let l = ltb-true _ _ h in inr (omega arith, smaller m (steps f e) (fine f t m e p).few l)) (λ h. inl (m * 2 ^ (steps f e - k), multiple m (steps f e) (ltb-false _ _ h))))

  -- ---- no value is nearer than q of them, and one as near means a tie
  near : (z : Float) → T (fits f z) → T (finite z) → apart n (q * u) ≤ apart n (units_in f z * b)
  near z p c = elim (placed z p c) [
    | inl (t, e) ↦ le_trans (close_least n u q t u_pos kept) (le_of_eq (ap (apart n) (sym e)))
    | inr (l, h) ↦ let g = close_least n u q (hid f) u_pos kept in omega (arith, lead l)
  ]

  tied : (z : Float) → T (fits f z) → T (finite z) → apart n (q * u) ≡ apart n (units_in f z * b) → (units_in f z * b ≡ q * u) ⊎ (q % 2 ≡ 0)
  tied z p c h = elim (placed z p c) [
    | inl (t, e) ↦ elim (close_tie n u q t u_pos kept (h ∙ ap (apart n) e)) [ inl g ↦ inl (e ∙ ap (λ (x : ℕ). x * u) g) | inr g ↦ inr g ]
    | inr (l, i) ↦ let g = close_least n u q (hid f) u_pos kept in absurd (omega (arith, lead l))
  ]

  -- ---- an infinity comes exactly from the largest value and half a step on
  abbrev P : ℕ
  P = 2 ^ prec f

  abbrev W : ℕ
  W = b * 2 ^ widest f

  W_pos : 0 < W
  W_pos = mul-pos B (pow_pos (widest f))

  abbrev c : ℕ
  c = 2 ^ suc (prec f) - 1

  c-is : c + 1 ≡ 2 * P
  c-is = let e : 2 ^ suc (prec f) ≡ 2 * P = pow-succ' 2 (prec f) in omega (arith, pow_pos (prec f))

  both-sides : (c * W * hid f ≡ c * 2 ^ emax f * b * 2 ^ low f) × (2 * n * hid f ≡ P * a * 2 ^ low f)
  both-sides = (
    regroup c b (2 ^ widest f) (hid f) ∙ ap (λ (z : ℕ). c * b * z) (sym (pow-add 2 (widest f) (prec f - 1)) ∙ ap (λ (z : ℕ). 2 ^ z) (sym (spans f)) ∙ pow-add 2 (emax f) (low f)) ∙ back c b (2 ^ emax f) (2 ^ low f),
    turn a (2 ^ low f) (hid f) ∙ ap (λ (z : ℕ). z * a * 2 ^ low f) (sym (twice f)),
  )
    where
      regroup : (c b x h : ℕ) → c * (b * x) * h ≡ c * b * (x * h)
      regroup c b x h = simp (mul_assoc)

      back : (c b x y : ℕ) → c * b * (x * y) ≡ c * x * b * y
      back c b x y = simp (mul_assoc, mul_comm, mul_left_comm)

      turn : (a x h : ℕ) → 2 * (a * x) * h ≡ 2 * h * a * x
      turn a x h = simp (mul_assoc, mul_comm, mul_left_comm)

  scaled : c * 2 ^ emax f * b ≤ P * a → c * W ≤ 2 * n
  scaled h = le_of_mul-le-mul_right (le_trans (le_of_eq both-sides.0) (le_trans (mul-le-mul_right (2 ^ low f) h) (le_of_eq (sym both-sides.1)))) (pow_pos (prec f - 1))

  unscaled : c * W ≤ 2 * n → c * 2 ^ emax f * b ≤ P * a
  unscaled h = le_of_mul-le-mul_right (le_trans (le_of_eq (sym both-sides.0)) (le_trans (mul-le-mul_right (hid f) h) (le_of_eq both-sides.1))) (pow_pos (low f))

  abbrev over : ℕ
  over = 2 ^ (low f + suc (emax f))

  over-is : over ≡ P * 2 ^ widest f
  over-is = ap (λ (z : ℕ). 2 ^ z) (places f) ∙ pow-add 2 (prec f) (widest f)

  -- the multiples of W that the proofs compare
  less_one : c * W + W ≡ 2 * (P * W)
  less_one = times c W ∙ ap (λ (z : ℕ). z * W) c-is ∙ mul_assoc 2 P W
    where
      times : (c w : ℕ) → c * w + w ≡ (c + 1) * w
      times c w = sym (add-mul c 1 w ∙ ap (λ (z : ℕ). c * w + z) (one-mul w))

  at_widest : k ≡ widest f → u ≡ W
  at_widest e = ap (λ (z : ℕ). b * 2 ^ z) e

  wider : widest f < k → 2 * W ≤ u
  wider h =
      le_trans (le_of_eq (mul_left_comm 2 b (2 ^ widest f)))
      (mul-le-mul_left b (le_trans (le_of_eq (sym (pow-succ' 2 (widest f)))) (pow_mono h)))

  reaches : over ≤ q * 2 ^ k → c * W ≤ 2 * n
  reaches h = elim (eq_or_lt k (widest f)) [
    | inl e ↦
        let g : P ≤ q = le_of_mul-le-mul_right (subst (λ (z : ℕ). z ≤ q * 2 ^ widest f) over-is (subst (λ (z : ℕ). over ≤ q * 2 ^ z) e h)) (pow_pos (widest f)) in
        let l : 2 * (q * W) ≤ 2 * n + W = subst (λ (z : ℕ). 2 * (q * z) ≤ 2 * n + z) (at_widest e) kept.low in
        omega (arith, less_one, mul-le-mul_right W g)
    | inr (inl l) ↦ absurd (not-le_of_lt (lt_of_le_of_lt (mul-le-mul_right (2 ^ k) most) (lt_of_lt_of_le (mul-lt-mul_of_pos_left (pow-lt l) (pow_pos (prec f))) (le_of_eq (sym over-is)))) h)
    | inr (inr g) ↦
        let x : hid f * (2 * W) ≤ hid f * u = mul-le-mul_left (hid f) (wider g) in
        let y : hid f * (2 * W) ≡ P * W = mul_left_comm (hid f) 2 W ∙ sym (mul_assoc 2 (hid f) W) ∙ ap (λ (z : ℕ). z * W) (sym (twice f)) in
        omega (arith, less_one, lead (omega arith))
  ]

  -- fewer dropped digits leave the fraction below half of that
  short : k < widest f → 2 * n < P * W
  short l =
      let x : n / b < 2 ^ (prec f + k) = lt_of_lt_of_le (size-lt (n / b)) (pow_mono (omega arith)) in
      let y : n < 2 ^ (prec f + k) * b = (div-lt_iff_lt-mul B).0 x in
      let z : 2 * (2 ^ (prec f + k) * b) ≤ P * W =
      le_trans (le_of_eq (sym (mul_assoc 2 (2 ^ (prec f + k)) b) ∙ ap (λ (i : ℕ). i * b) (sym (pow-succ' 2 (prec f + k)))))
      (le_trans (mul-le-mul_right b (pow_mono (omega arith))) (le_of_eq (ap (λ (i : ℕ). i * b) (pow-add 2 (prec f) (widest f)) ∙ mul_assoc P (2 ^ widest f) b ∙ ap (λ (i : ℕ). P * i) (mul_comm (2 ^ widest f) b)))) in
      omega arith

  -- one less than 2 ^ prec is odd, so no tie ends there
  odd_end : (q : ℕ) → Close n W q → c * W ≤ 2 * n → P ≤ q
  odd_end q t h = by-case (ltb q P) (λ e. absurd (no (ltb-true _ _ e))) (λ e. ltb-false _ _ e)
    where
      no : q < P → ⊥
      no l =
          let g : q * W + W ≤ P * W = le_trans (le_of_eq (sym (suc-mul q W))) (mul-le-mul_right W l) in
          let e : 2 * n ≡ 2 * (q * W) + W = le_antisymm t.up (omega (arith, less_one)) in
          let d : q * W + W ≡ P * W = omega (arith, less_one) in
          let m : suc q ≡ P = eq_of_mul-eq-mul_right W W_pos (suc q) P (suc-mul q W ∙ d) in
          omega (arith, t.up_even e, twice f)

  enough : c * W ≤ 2 * n → over ≤ q * 2 ^ k
  enough h = elim (eq_or_lt k (widest f)) [
    | inl e ↦ le_trans (le_of_eq over-is) (subst (λ (z : ℕ). P * 2 ^ widest f ≤ q * 2 ^ z) (sym e) (mul-le-mul_right (2 ^ widest f) (odd_end q (subst (λ (z : ℕ). Close n z q) (at_widest e) kept) h)))
    | inr (inl l) ↦ absurd (omega (arith, short l, less_one, mul-le-mul_right W (pow_pos (prec f)), one-mul W))
    | inr (inr g) ↦
        le_trans (le_of_eq (over-is ∙ ap (λ (z : ℕ). z * 2 ^ widest f) (twice f) ∙ mul_assoc 2 (hid f) (2 ^ widest f) ∙ mul_left_comm 2 (hid f) (2 ^ widest f)))
        (le_trans (mul-le-mul_left (hid f) (le_trans (le_of_eq (sym (pow-succ' 2 (widest f)))) (pow_mono g))) (mul-le-mul_right (2 ^ k) (full (omega arith))))
  ]

  -- ---- the rounded value
  abbrev y : Float
  y = units f s q k

  counted : (v : Float) (t : Bool) (m : ℕ) → HasValue v t m (2 ^ low f) → units_in f v ≡ m
  counted nan t m h = absurd h
  counted (inf w) t m h = absurd h
  counted (fin w x e) t m h = ap (λ (z : ℕ). z / down e) h.1 ∙ mul-div_cancel m (down_pos e)

  parity : (v : Float) (t : Bool) → HasValue v t (q * 2 ^ k) (2 ^ low f) → to_bits f v % 2 ≡ q % 2
  parity nan t h = absurd h
  parity (inf w) t h = absurd h
  parity (fin false m e) t h = ap (λ (z : ℕ). z % 2) (pattern f k q (fin false m e) most full (refl, h.1)) ∙ odd_out (k * hid f) q (even-weight f k)
  parity (fin true m e) t h =
      ap (λ (z : ℕ). z % 2) (negative_is f m e ∙ ap (λ (z : ℕ). top f + z) (pattern f k q (fin false m e) most full (refl, h.1)))
      ∙ odd_out (top f) (k * hid f + q) (even-top f) ∙ odd_out (k * hid f) q (even-weight f k)

  step : (t : ℕ) → t * 2 ^ k * b ≡ t * u
  step t = mul_assoc t (2 ^ k) b ∙ ap (λ (z : ℕ). t * z) (mul_comm (2 ^ k) b)

  is-nearest : q * 2 ^ k < over → Nearest f s a b y
  is-nearest l =
      let v = units_val f s q k l in
      let e : units_in f y ≡ q * 2 ^ k = counted y s (q * 2 ^ k) v in
      let g : units_in f y * b ≡ q * u = ap (λ (z : ℕ). z * b) e ∙ step q in
      record {
        value = subst (λ (z : ℕ). HasValue y s z (2 ^ low f)) (sym e) v;
        near = λ z p c. le_trans (le_of_eq (ap (apart n) g)) (near z p c);
        even = λ z p c h. elim (tied z p c (sym (ap (apart n) g) ∙ h)) [
          | inl i ↦ inl (eq_of_mul-eq-mul_right b B (units_in f z) (units_in f y) (i ∙ sym g))
          | inr i ↦ inr (parity y s v ∙ i)
        ];
      }

  pub round-nearest : Rounded f s a b (round f s a b)
  round-nearest = record {
    under = λ h. subst (Nearest f s a b) (sym (round_is f s a b)) (is-nearest (by-case (ltb (q * 2 ^ k) over) (λ e. ltb-true _ _ e) (λ e. absurd (not-le_of_lt h (unscaled (reaches (ltb-false _ _ e)))))));
    past = λ h. round_is f s a b ∙ units-over f s q k (enough (scaled h));
  }

-- ---- what the casts to f32 do
pub convert-nearest : (f : Format) (s : Bool) (m : ℕ) (e : ℤ) → Rounded f s (m * up e) (down e) (convert f (fin s m e))
unfolding convert
convert-nearest f s m e = round-nearest f s (m * up e) (down e) (down_pos e)

pub whole-nearest : (f : Format) (n : ℕ) → Rounded f false n 1 (of_int f (pos n))
unfolding of_int
whole-nearest f n = round-nearest f false n 1 (pow_pos 0)
