-- No f32 is nearer to the root than sqrt's answer: an f32 next to it is a step of 2^e away, or is below it where the root is not.
use mathlib.Core.Path.{◌≡◌, sym, ap, ◌∙◌, subst, subst⁻¹}
use mathlib.Core.Logic.{inl, inr}
use mathlib.Core.Bool.{false}
use Prim.Native.Nat.{ℕ, zero-le, ◌+◌, ◌-◌, ◌*◌, ◌^◌, ◌≤◌, ◌<◌}
use native.Mathlib.Nat.{le_trans, le_of_eq, le_of_lt, lt_of_lt_of_le, lt_of_le_of_lt, mul_assoc, mul-le-mul_left, mul-le-mul_right, mul-lt-mul_of_pos_right, lt_of_mul-lt-mul_right, mul-mul-mul_comm, mul-pos, add-mul, eq-or-lt_of_le}
use native.Mathlib.Omega.{arith}
use lib.Dec.{T}
use lib.Pow.{pow_pos, pow-add}
use lib.Ieee.{Float, nan, inf, fin, binary32, fits, up, down}
use lib.Ieee.Exact.{HasValue}
use lib.Ieee.Digits.{back}
use lib.Ieee.Positive.{positive}
use Rattle.floats_laws.proofs.Naturals.{le_or_lt}
use Rattle.floats_laws.proofs.Rescaled.{rescale, one_value, powers_move}
use Rattle.floats.proofs.Values.{fine, steps, steps_are}
use Rattle.floats.proofs.Residues.{gathered}
use Rattle.elementary.specs.Sqrt.{square, NearestRoot, sqrt_of, RootRounded, Closest}
use Rattle.elementary.proofs.RootNearest.{sqrt_rounds}
use Rattle.elementary.proofs.Rungs.{rungs_le}
use Rattle.elementary.proofs.Squares.{squares_le}

-- ---- every f32 is m * 2^s units, with m of 24 digits
record Gridded (c : ℕ) : Type 0 where
  m : ℕ
  s : ℕ
  few : m < 2 ^ 24
  is : c ≡ m * 2 ^ s

gridded : (z : Float) (c : ℕ) → T (fits binary32 z) → HasValue z false c (2 ^ 149) → Gridded c
gridded nan c f v = absurd v
gridded (inf t) c f v = absurd v
gridded (fin t m e) c f v =
    let g = fine binary32 t m e f in
    record {
      m = m;
      s = steps binary32 e;
      few = g.few;
      is = one_value (fin t m e) false c (m * 2 ^ steps binary32 e) (2 ^ 149) v (v.0, mul_assoc m (up e) (2 ^ 149) ∙ ap (λ (k : ℕ). m * k) (steps_are binary32 e g.deep) ∙ sym (mul_assoc m (2 ^ steps binary32 e) (down e)));
    }

-- from 2^23 * 2^t on it is a multiple of 2^t
record Multiple (t c : ℕ) : Type 0 where
  k : ℕ
  is : c ≡ k * 2 ^ t

multiple : (t c : ℕ) → Gridded c → 8388608 * 2 ^ t ≤ c → Multiple t c
multiple t c g h =
    let l : t ≤ g.s = rungs_le 8388608 t g.m g.s (omega arith) g.few (subst (λ (n : ℕ). 8388608 * 2 ^ t ≤ n) g.is h) in
    record { k = g.m * 2 ^ (g.s - t); is = g.is ∙ ap (λ (n : ℕ). g.m * 2 ^ n) (sym (back g.s t l)) ∙ sym (gathered g.m (g.s - t) t) }

-- ---- the middles, with the step u
square-times : (a u : ℕ) → square (a * u) ≡ square a * (u * u)
square-times a u = mul-mul-mul_comm a u a u

four : (n u : ℕ) → 4 * n * (u * u) ≡ 4 * (n * (u * u))
four n u = mul_assoc 4 n (u * u)

module _ (n r u : ℕ) (U : 0 < u) where
  under : (b : ℕ) → b ≤ (2 * r - 1) * u → square (2 * r - 1) < 4 * n → square b < 4 * (n * (u * u))
  under b h p =
      lt_of_le_of_lt (squares_le b ((2 * r - 1) * u) h)
      (subst (λ (k : ℕ). square ((2 * r - 1) * u) < k) (four n u) (subst⁻¹ (λ (k : ℕ). k < 4 * n * (u * u)) (square-times (2 * r - 1) u) (mul-lt-mul_of_pos_right p (mul-pos U U))))

  over : (b : ℕ) → (2 * r + 1) * u ≤ b → 4 * n < square (2 * r + 1) → 4 * (n * (u * u)) < square b
  over b h p =
      lt_of_lt_of_le
      (subst (λ (k : ℕ). k < square ((2 * r + 1) * u)) (four n u) (subst⁻¹ (λ (k : ℕ). 4 * n * (u * u) < k) (square-times (2 * r + 1) u) (mul-lt-mul_of_pos_right p (mul-pos U U))))
      (squares_le ((2 * r + 1) * u) b h)

squares_lt : (a b : ℕ) → a < b → square a < square b
squares_lt a b h = lt_of_le_of_lt (mul-le-mul_left a (le_of_lt h)) (mul-lt-mul_of_pos_right h (lt_of_le_of_lt zero-le h))

-- the sum of two multiples of a step, each side of a middle
sum-under : (i r u : ℕ) → i < r → r * u + i * u ≤ (2 * r - 1) * u
sum-under i r u h = le_trans (le_of_eq (sym (add-mul r i u))) (mul-le-mul_right u (few i r h))
  where
    few : (i r : ℕ) → i < r → r + i ≤ 2 * r - 1
    few i r h = omega arith

sum_over : (i r u : ℕ) → r < i → (2 * r + 1) * u ≤ r * u + i * u
sum_over i r u h = le_trans (mul-le-mul_right u (many i r h)) (le_of_eq (add-mul r i u))
  where
    many : (i r : ℕ) → r < i → 2 * r + 1 ≤ r + i
    many i r h = omega arith

-- ---- THE CLAIM, from how the answer was rounded
module _ (n r t : ℕ) (p : NearestRoot n r) (from : 2 ^ 46 ≤ n) (lead : 2 ^ 23 ≤ r) where
  -- at the least r, 2^23, the root is not below the answer
  at_least : (c : ℕ) → c < r * 2 ^ t → 2 ^ 23 ≡ r → square (r * 2 ^ t + c) < 4 * (n * (2 ^ t * 2 ^ t))
  at_least c h e =
      lt_of_lt_of_le (squares_lt (r * 2 ^ t + c) (2 * r * 2 ^ t) (double (r * 2 ^ t) c (2 * r * 2 ^ t) h (mul_assoc 2 r (2 ^ t))))
      (le_trans (le_of_eq (square-times (2 * r) (2 ^ t))) (le_trans (mul-le-mul_right (2 ^ t * 2 ^ t) (subst (λ (k : ℕ). square (2 * k) ≤ 4 * n) e (omega arith))) (le_of_eq (four n (2 ^ t)))))
    where
      double : (b c d : ℕ) → c < b → d ≡ 2 * b → b + c < d
      double b c d h e = omega arith

  closest_below : (c : ℕ) → Gridded c → c < r * 2 ^ t → square (r * 2 ^ t + c) < 4 * (n * (2 ^ t * 2 ^ t))
  closest_below c g h = elim (le_or_lt (8388608 * 2 ^ t) c) [
    | inl l ↦
        let w = multiple t c g l in
        under n r (2 ^ t) (pow_pos t) (r * 2 ^ t + c) (subst⁻¹ (λ (k : ℕ). r * 2 ^ t + k ≤ (2 * r - 1) * 2 ^ t) w.is (sum-under w.k r (2 ^ t) (lt_of_mul-lt-mul_right (2 ^ t) (subst (λ (k : ℕ). k < r * 2 ^ t) w.is h)))) p.below
    | inr l ↦ elim (eq-or-lt_of_le lead) [
      | inl e ↦ at_least c h e
      | inr a ↦ under n r (2 ^ t) (pow_pos t) (r * 2 ^ t + c) (le_trans (add_le (r * 2 ^ t) c (8388608 * 2 ^ t) l) (sum-under 8388608 r (2 ^ t) a)) p.below
    ]
  ]
    where
      add_le : (a b c : ℕ) → b < c → a + b ≤ a + c
      add_le a b c h = omega arith

  closest_above : (c : ℕ) → Gridded c → r * 2 ^ t < c → 4 * (n * (2 ^ t * 2 ^ t)) < square (r * 2 ^ t + c)
  closest_above c g h =
      let w = multiple t c g (le_trans (mul-le-mul_right (2 ^ t) lead) (le_of_lt h)) in
      over n r (2 ^ t) (pow_pos t) (r * 2 ^ t + c) (subst⁻¹ (λ (k : ℕ). (2 * r + 1) * 2 ^ t ≤ r * 2 ^ t + k) w.is (sum_over w.k r (2 ^ t) (lt_of_mul-lt-mul_right (2 ^ t) (subst (λ (k : ℕ). r * 2 ^ t < k) w.is h)))) p.above

pub closest : (x y : Float) → RootRounded x y → Closest x y
closest x y p =
    let t = p.h + 51 in
    record {
      a = p.n * (2 ^ t * 2 ^ t);
      b = p.r * 2 ^ t;
      argument = rescale x false (p.n * 2 ^ (2 * p.h)) (2 ^ 196) (p.n * (2 ^ t * 2 ^ t)) (2 ^ 298) (pow_pos 196) (ap (λ (k : ℕ). p.n * k * 2 ^ 196) (sym (pow-add 2 t t)) ∙ powers_move p.n (t + t) 196 (2 * p.h) 298 (omega arith)) p.argument;
      answer = rescale y false (p.r * 2 ^ p.h) (2 ^ 98) (p.r * 2 ^ t) (2 ^ 149) (pow_pos 98) (powers_move p.r t 98 p.h 149 (omega arith)) p.answer;
      below = λ z c f v h. closest_below p.n p.r t p.nearest p.from p.lead c (gridded z c f v) h;
      above = λ z c f v h. closest_above p.n p.r t p.nearest p.from p.lead c (gridded z c f v) h;
    }

pub sqrt_closest : (x : Float) → T (fits binary32 x) → T (positive x) → Closest x (sqrt_of x)
sqrt_closest x f p = closest x (sqrt_of x) (sqrt_rounds x f p)
