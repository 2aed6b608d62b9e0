-- Bounds by fractions, over the format: `Under x n c`, x is finite and at most n / c in size. A fraction that the format holds passes through each operation.
use Prim.Native.Nat.{ℕ, suc, ◌+◌, ◌-◌, ◌*◌, ◌^◌, ◌≤◌, ◌<◌}
use native.Mathlib.Nat.{le_trans, le_of_eq, lt_of_lt_of_le, mul_comm, mul_assoc, mul_right_comm, mul-mul-mul_comm, mul-one, add-mul, mul-pos, mul-le-mul, mul-le-mul_right, mul-le-mul_left, mul-lt-mul_of_pos_right, le_of_mul-le-mul_right}
use native.Mathlib.Omega.{arith}
use mathlib.Core.Path.{◌≡◌, sym, ap, ◌∙◌, subst}
use mathlib.Core.Bool.{Bool, true, false, cond, ◌&&◌, beq, true≢false}
use lib.Dec.{T, ltb, eqb, lit≤}
use lib.Pow.{pow_pos, pow-add, pow_mono}
use lib.Ieee.{Float, nan, inf, fin, Format, binary32, binary64, prec, emax, low, up, down, round, add, neg, sum, mul, div, le, lt, eq, unlike}
use lib.Ieee.Exact.{HasValue, round_exact}
use lib.Ieee.Fits.{down_pos}
use lib.Ieee.Order.{round_mono}
use lib.Ieee.Scale.{finite}
use Rattle.sequences.specs.Pick.{by-case}
use Rattle.floats.proofs.Values.{neg_round}
use Rattle.floats_laws.proofs.Mag.{Mag, Upto, le_of, within-upto}
use Rattle.floats_laws.proofs.Bounds.{chosen, nonzero}

abbrev pub Under : Float → ℕ → ℕ → Type 0
Under nan n c = ⊥
Under (inf s) n c = ⊥
Under (fin s m e) n c = m * up e * c ≤ n * down e

-- without a sign, and at least the whole number b
abbrev pub Above : Float → ℕ → Type 0
Above nan b = ⊥
Above (inf s) b = ⊥
Above (fin true m e) b = ⊥
Above (fin false m e) b = b * down e ≤ m * up e

pub under-finite : (x : Float) (n c : ℕ) → Under x n c → T (finite x)
under-finite nan n c h = h
under-finite (inf s) n c h = h
under-finite (fin s m e) n c h = tt

pub under_more : (x : Float) (n k c : ℕ) → n ≤ k → Under x n c → Under x k c
under_more nan n k c l h = h
under_more (inf s) n k c l h = h
under_more (fin s m e) n k c l h = le_trans h (mul-le-mul_right (down e) l)

pub under_neg : (x : Float) (n c : ℕ) → Under x n c → Under (neg x) n c
unfolding neg
under_neg nan n c h = h
under_neg (inf s) n c h = h
under_neg (fin s m e) n c h = h

-- a bound k * c / c is the whole number k
pub under_mag : (x : Float) (k c : ℕ) → 0 < c → Under x (k * c) c → Mag x k
under_mag nan k c C h = h
under_mag (inf s) k c C h = h
under_mag (fin s m e) k c C h = le_of_mul-le-mul_right (le_trans h (le_of_eq (mul_right_comm k c (down e)))) C

pub mag_under : (x : Float) (k c : ℕ) → Mag x k → Under x (k * c) c
mag_under nan k c h = h
mag_under (inf s) k c h = h
mag_under (fin s m e) k c h = le_trans (mul-le-mul_right c h) (le_of_eq (mul_right_comm k (down e) c))

-- ---- fractions that the format holds: as many digits as it has, over a power of two
room : (f : Format) → prec f ≤ suc (emax f)
room binary32 = lit≤ tt
room binary64 = lit≤ tt

pub held : (f : Format) (s : Bool) (a j n : ℕ) → a + j ≡ low f → n < 2 ^ prec f → HasValue (round f s n (2 ^ j)) s n (2 ^ j)
held f s a j n e h =
    round_exact f s n (2 ^ j) n a (pow_pos j) h
    (lt_of_lt_of_le (mul-lt-mul_of_pos_right h (pow_pos a))
    (subst (λ (z : ℕ). z ≤ 2 ^ (low f + suc (emax f))) (pow-add 2 (prec f) a) (pow_mono {i = prec f + a} {j = low f + suc (emax f)} (omega (arith, room f, e)))))
    (ap (λ (z : ℕ). n * 2 ^ z) (sym e) ∙ ap (λ (z : ℕ). n * z) (pow-add 2 a j) ∙ sym (mul_assoc n (2 ^ a) (2 ^ j)))

-- ---- rounding
pub less : (x v n q k c : ℕ) → 0 < q → x * q ≤ n * v → n * c ≡ k * q → x * c ≤ k * v
less x v n q k c Q h e = le_of_mul-le-mul_right (le_trans (le_of_eq (mul_right_comm x c q)) (le_trans (mul-le-mul_right c h) (le_of_eq (mul_right_comm n v c ∙ ap (λ (z : ℕ). z * v) e ∙ mul_right_comm k q v)))) Q

bounded : (x y : Float) (n c k : ℕ) → T (le x y) → HasValue y false n c → Upto x k → Under x n c
unfolding le lt eq
bounded nan y n c k h v p = absurd p
bounded (inf s) y n c k h v p = absurd p
bounded (fin true m e) y n c k h v p = absurd p
bounded (fin false m e) nan n c k h v p = absurd v
bounded (fin false m e) (inf t) n c k h v p = absurd v
bounded (fin false m e) (fin true a d) n c k h v p = absurd (true≢false v.0)
bounded (fin false m e) (fin false a d) n c k h v p = less (m * up e) (down e) (a * up d) (down d) n c (down_pos d) (le_of (m * up e * down d) (a * up d * down e) h) v.1

module _ (f : Format) where
  -- n / c, which the format holds
  abbrev pub Holds : ℕ → ℕ → Type 0
  Holds n c = (0 < c) × (n ≤ 2 ^ prec f) × HasValue (round f false n c) false n c

  plain-under : (a b n c : ℕ) → 0 < b → Holds n c → a * c ≤ n * b → Under (round f false a b) n c
  plain-under a b n c B v h =
      bounded (round f false a b) (round f false n c) n c n (round_mono f a b n c B v.0 h) v.2
      (within-upto f a b n B v.1 (le_trans (le_trans (le_of_eq (sym (mul-one a))) (mul-le-mul_left a v.0)) h))

  pub round_under : (s : Bool) (a b n c : ℕ) → 0 < b → Holds n c → a * c ≤ n * b → Under (round f s a b) n c
  round_under false a b n c B v h = plain-under a b n c B v h
  round_under true a b n c B v h = subst (λ (x : Float). Under x n c) (neg_round f false a b) (under_neg (round f false a b) n c (plain-under a b n c B v h))

  -- ---- sums
  both : (a b m n c d : ℕ) → a * c ≤ m * d → b * c ≤ n * d → (a + b) * c ≤ (m + n) * d
  both a b m n c d h g = rw (add-mul a b c, add-mul m n d) (omega arith)

  part : (s : Bool) (x a b d m n c : ℕ) → 0 < d → Holds (m + n) c → x ≤ a + b → a * c ≤ m * d → b * c ≤ n * d → Under (round f s x d) (m + n) c
  part s x a b d m n c D v l h g = round_under s x d (m + n) c D v (le_trans (mul-le-mul_right c l) (both a b m n c d h g))

  sum-under : (s t : Bool) (a b d m n c : ℕ) → 0 < d → Holds (m + n) c → a * c ≤ m * d → b * c ≤ n * d → Under (sum f s a t b d) (m + n) c
  unfolding sum
  sum-under s t a b d m n c D v h g =
      chosen (λ z. Under z (m + n) c) (beq s t) (round f s (a + b) d) (cond (ltb a b) (round f t (b - a) d) (round f (s && ltb b a) (a - b) d)) (part s (a + b) a b d m n c D v (omega arith) h g)
      (chosen (λ z. Under z (m + n) c) (ltb a b) (round f t (b - a) d) (round f (s && ltb b a) (a - b) d) (part t (b - a) a b d m n c D v (omega arith) h g) (part (s && ltb b a) (a - b) a b d m n c D v (omega arith) h g))

  scaled : (x v w n c : ℕ) → x * c ≤ n * v → x * w * c ≤ n * (v * w)
  scaled x v w n c h = le_trans (le_of_eq (mul_right_comm x w c)) (le_trans (mul-le-mul_right w h) (le_of_eq (mul_assoc n v w)))

  pub add_under : (x y : Float) (m n c : ℕ) → Holds (m + n) c → Under x m c → Under y n c → Under (add f x y) (m + n) c
  unfolding add
  add_under nan y m n c v h g = absurd h
  add_under (inf s) y m n c v h g = absurd h
  add_under (fin s a e) nan m n c v h g = absurd g
  add_under (fin s a e) (inf t) m n c v h g = absurd g
  add_under (fin s a e) (fin t b d) m n c v h g =
      sum-under s t (a * up e * down d) (b * up d * down e) (down e * down d) m n c (mul-pos (down_pos e) (down_pos d)) v (scaled (a * up e) (down e) (down d) m c h)
      (le_trans (scaled (b * up d) (down d) (down e) n c g) (le_of_eq (ap (λ (z : ℕ). n * z) (mul_comm (down d) (down e)))))

  -- ---- products and quotients: m / c times n / d, or by n, is at most k / l
  crossed : (x v y w m c n d k l : ℕ) → 0 < c * d → x * c ≤ m * v → y * d ≤ n * w → m * n * l ≤ k * (c * d) → x * y * l ≤ k * (v * w)
  crossed x v y w m c n d k l C h g q =
      le_of_mul-le-mul_right
      (le_trans (le_of_eq (mul_right_comm (x * y) l (c * d) ∙ ap (λ (z : ℕ). z * l) (mul-mul-mul_comm x y c d)))
      (le_trans (mul-le-mul_right l (mul-le-mul h g))
      (le_trans (le_of_eq (ap (λ (z : ℕ). z * l) (mul-mul-mul_comm m v n w) ∙ mul_right_comm (m * n) (v * w) l))
      (le_trans (mul-le-mul_right (v * w) q) (le_of_eq (mul_right_comm k (c * d) (v * w))))))) C

  pub mul_under : (x y : Float) (m c n d k l : ℕ) → 0 < c * d → Holds k l → m * n * l ≤ k * (c * d) → Under x m c → Under y n d → Under (mul f x y) k l
  unfolding mul
  mul_under nan y m c n d k l C v q h g = absurd h
  mul_under (inf s) y m c n d k l C v q h g = absurd h
  mul_under (fin s a e) nan m c n d k l C v q h g = absurd g
  mul_under (fin s a e) (inf t) m c n d k l C v q h g = absurd g
  mul_under (fin s a e) (fin t b i) m c n d k l C v q h g =
      round_under (unlike s t) (a * up e * (b * up i)) (down e * down i) k l (mul-pos (down_pos e) (down_pos i)) v (crossed (a * up e) (down e) (b * up i) (down i) m c n d k l C h g q)

  -- x / v over y / w, where y / w is at least n
  over : (x v y w m c n k l : ℕ) → 0 < c * n → x * c ≤ m * v → n * w ≤ y → m * l ≤ k * (c * n) → x * w * l ≤ k * (y * v)
  over x v y w m c n k l C h g q =
      le_of_mul-le-mul_right
      (le_trans (le_of_eq (mul_right_comm (x * w) l (c * n) ∙ ap (λ (z : ℕ). z * l) (mul-mul-mul_comm x w c n)))
      (le_trans (mul-le-mul_right l (mul-le-mul h (le_trans (le_of_eq (mul_comm w n)) g)))
      (le_trans (le_of_eq (mul_right_comm (m * v) y l ∙ ap (λ (z : ℕ). z * y) (mul_right_comm m v l)))
      (le_trans (mul-le-mul_right y (mul-le-mul_right v q)) (le_of_eq (mul_right_comm (k * (c * n)) v y ∙ mul_assoc (k * (c * n)) y v ∙ mul_right_comm k (c * n) (y * v))))))) C

  pub div_under : (x y : Float) (m c n k l : ℕ) → 0 < c → 0 < n → Holds k l → m * l ≤ k * (c * n) → Under x m c → Above y n → Under (div f x y) k l
  unfolding div
  div_under nan y m c n k l C N v q h g = absurd h
  div_under (inf s) y m c n k l C N v q h g = absurd h
  div_under (fin s a e) nan m c n k l C N v q h g = absurd g
  div_under (fin s a e) (inf t) m c n k l C N v q h g = absurd g
  div_under (fin s a e) (fin true b i) m c n k l C N v q h g = absurd g
  div_under (fin s a e) (fin false b i) m c n k l C N v q h g =
      let P : 0 < b * up i = lt_of_lt_of_le (mul-pos N (down_pos i)) g in
      by-case (eqb b 0) (λ z. absurd (nonzero b i P z))
      (λ z. rw z (round_under (unlike s false) (a * up e * down i) (b * up i * down e) k l (mul-pos P (down_pos e)) v (over (a * up e) (down e) (b * up i) (down i) m c n k l (mul-pos C N) h g q)))
