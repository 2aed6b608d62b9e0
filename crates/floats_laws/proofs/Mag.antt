-- Bounds by whole numbers, over the format: `Mag x k`, x is finite and at most k in size; `Upto x k`, it has no sign besides; `Least x j`, it is finite, has no sign and is at least 1 / j.
-- A bound that the format holds passes through rounding, and so through each operation (Bounds.antt).
use Prim.Native.Nat.{ℕ, zero, suc, ◌+◌, ◌*◌, ◌^◌, ◌≤◌, ◌<◌, zero-le}
use native.Mathlib.Nat.{le_trans, le_of_eq, le_of_lt, mul_comm, mul_assoc, mul_right_comm, mul-one, zero-mul, mul-zero, mul-pos, mul-le-mul_right, mul-le-mul_left, le_of_mul-le-mul_right, lt_of_lt_of_le, eq-or-lt_of_le, zero-lt-suc}
use native.Mathlib.Omega.{arith}
use mathlib.Core.Path.{◌≡◌, refl, sym, ap, ◌∙◌, subst}
use mathlib.Core.Logic.{inl, inr}
use mathlib.Core.Bool.{Bool, true, false, cond, ◌&&◌, ◌||◌, true≢false}
use lib.IntN.{ℤ}
use lib.Dec.{T, ltb, eqb, eqb→eq, eqb_refl, ltb→lt, lt→ltb}
use lib.Pow.{pow_pos}
use lib.Ieee.{Float, nan, inf, fin, Format, prec, emax, low, up, down, odd, units, round, lt, eq, le}
use lib.Ieee.Fits.{down_pos, round_is, and_l, and_r, and_i}
use lib.Ieee.Exact.{HasValue}
use lib.Ieee.Back.{round_whole}
use lib.Ieee.Order.{round_mono}
use lib.Ieee.Scale.{finite}
use Rattle.floats_laws.proofs.Rising.{nought, or_left, or_right}

abbrev pub Mag : Float → ℕ → Type 0
Mag nan k = ⊥
Mag (inf s) k = ⊥
Mag (fin s m e) k = m * up e ≤ k * down e

abbrev pub Upto : Float → ℕ → Type 0
Upto nan k = ⊥
Upto (inf s) k = ⊥
Upto (fin true m e) k = ⊥
Upto (fin false m e) k = m * up e ≤ k * down e

abbrev pub Least : Float → ℕ → Type 0
Least nan j = ⊥
Least (inf s) j = ⊥
Least (fin true m e) j = ⊥
Least (fin false m e) j = down e ≤ j * (m * up e)

pub upto_mag : (x : Float) (k : ℕ) → Upto x k → Mag x k
upto_mag nan k h = h
upto_mag (inf s) k h = h
upto_mag (fin true m e) k h = absurd h
upto_mag (fin false m e) k h = h

pub mag_finite : (x : Float) (k : ℕ) → Mag x k → T (finite x)
mag_finite nan k h = h
mag_finite (inf s) k h = h
mag_finite (fin s m e) k h = tt

pub mag_more : (x : Float) (j k : ℕ) → j ≤ k → Mag x j → Mag x k
mag_more nan j k l h = h
mag_more (inf s) j k l h = h
mag_more (fin s m e) j k l h = le_trans h (mul-le-mul_right (down e) l)

-- ---- rounding keeps the sign
abbrev Plain : Float → Type 0
Plain nan = ⊥
Plain (inf s) = s ≡ false
Plain (fin s m e) = s ≡ false

-- y is x, which has no sign, with the sign s
abbrev Signed : Bool → Float → Float → Type 0
Signed s nan y = ⊥
Signed s (inf t) y = (t ≡ false) × (y ≡ inf s)
Signed s (fin t m e) y = (t ≡ false) × (y ≡ fin s m e)

odd_signed : (d : ℕ) (s : Bool) (q k l : ℕ) → Signed s (odd d false q k l) (odd d s q k l)
unfolding odd
odd_signed d s zero k l = (refl, refl)
odd_signed d s (suc q) k l = (refl, refl)

units_signed : (f : Format) (s : Bool) (q k : ℕ) → Signed s (units f false q k) (units f s q k)
unfolding units
units_signed f s q k = go (ltb (q * 2 ^ k) (2 ^ (low f + suc (emax f))))
  where
    go : (b : Bool) → Signed s (cond b (odd (suc (prec f)) false q k (low f)) (inf false)) (cond b (odd (suc (prec f)) s q k (low f)) (inf s))
    go true = odd_signed (suc (prec f)) s q k (low f)
    go false = (refl, refl)

round_signed : (f : Format) (s : Bool) (a b : ℕ) → Signed s (round f false a b) (round f s a b)
round_signed f s a b = rw (round_is f false a b, round_is f s a b) (units_signed f s _ _)

plain : (s : Bool) (x y : Float) → Signed s x y → Plain x
plain s nan y h = h
plain s (inf t) y h = h.0
plain s (fin t m e) y h = h.0

resized : (s : Bool) (x y : Float) (k : ℕ) → Signed s x y → Upto x k → Mag y k
resized s nan y k h u = absurd h
resized s (inf t) y k h u = absurd u
resized s (fin true m e) y k h u = absurd u
resized s (fin false m e) y k h u = subst (λ (z : Float). Mag z k) (sym h.1) u

-- ---- the order gives the bounds
or_split : {P : Type 0} (a b : Bool) → (T a → P) → (T b → P) → T (a || b) → P
or_split true b p q t = p tt
or_split false b p q t = q t

pub le_of : (a b : ℕ) → T (ltb a b || (eqb a b && true)) → a ≤ b
le_of a b t = or_split (ltb a b) (eqb a b && true) (λ u. le_of_lt (ltb→lt a b u)) (λ u. le_of_eq (eqb→eq a b (and_l (eqb a b) true u))) t

under : (x v n q k : ℕ) → 0 < q → x * q ≤ n * v → n * 1 ≡ k * q → x ≤ k * v
under x v n q k Q h w = le_of_mul-le-mul_right (le_trans h (le_of_eq (ap (λ (z : ℕ). z * v) (sym (mul-one n) ∙ w) ∙ mul_right_comm k q v))) Q

-- below k, which y is
below : (x y : Float) (k : ℕ) → T (le x y) → HasValue y false k 1 → Plain x → Upto x k
unfolding le lt eq
below nan y k h v p = absurd p
below (inf true) y k h v p = absurd (true≢false p)
below (inf false) nan k h v p = absurd v
below (inf false) (inf t) k h v p = absurd v
below (inf false) (fin t n d) k h v p = absurd h
below (fin true m e) y k h v p = absurd (true≢false p)
below (fin false m e) nan k h v p = absurd v
below (fin false m e) (inf t) k h v p = absurd v
below (fin false m e) (fin true n d) k h v p = absurd (true≢false v.0)
below (fin false m e) (fin false n d) k h v p = under (m * up e) (down e) (n * up d) (down d) k (down_pos d) (le_of (m * up e * down d) (n * up d * down e) h) v.1

-- a / b is at most c / d, which rounds to k
pub round-upto : (f : Format) (a b c d k : ℕ) → 0 < b → 0 < d → a * d ≤ c * b → HasValue (round f false c d) false k 1 → Upto (round f false a b) k
round-upto f a b c d k B D h v = below (round f false a b) (round f false c d) k (round_mono f a b c d B D h) v (plain false (round f false a b) (round f false a b) (round_signed f false a b))

pub round_mag : (f : Format) (s : Bool) (a b c d k : ℕ) → 0 < b → 0 < d → a * d ≤ c * b → HasValue (round f false c d) false k 1 → Mag (round f s a b) k
round_mag f s a b c d k B D h v = resized s (round f false a b) (round f s a b) k (round_signed f s a b) (round-upto f a b c d k B D h v)

-- a bound that the format holds
pub within : (f : Format) (s : Bool) (a b k : ℕ) → 0 < b → k ≤ 2 ^ prec f → a ≤ k * b → Mag (round f s a b) k
within f s a b k B K h = round_mag f s a b k 1 k B (pow_pos 0) (le_trans (le_of_eq (mul-one a)) h) (round_whole f false k K)

pub within-upto : (f : Format) (a b k : ℕ) → 0 < b → k ≤ 2 ^ prec f → a ≤ k * b → Upto (round f false a b) k
within-upto f a b k B K h = round-upto f a b k 1 k B (pow_pos 0) (le_trans (le_of_eq (mul-one a)) h) (round_whole f false k K)

-- ---- between the bounds and the order
pub least_pos : (j x v : ℕ) → 0 < v → v ≤ j * x → 0 < x
least_pos j zero v L h = absurd (omega (arith, mul-zero j))
least_pos j (suc x) v L h = zero-lt-suc x

pub no_less : (x v y q j : ℕ) → 0 < q → q ≤ j * y → y * v ≤ x * q → v ≤ j * x
no_less x v y q j Q h g =
    le_of_mul-le-mul_right
    (le_trans (le_of_eq (mul_comm v q)) (le_trans (mul-le-mul_right v h) (le_trans (le_of_eq (mul_assoc j y v)) (le_trans (mul-le-mul_left j g) (le_of_eq (sym (mul_assoc j x q))))))) Q

-- at least what is at least 1 / j
pub least-up : (x y : Float) (j k : ℕ) → T (le x y) → Least x j → Mag y k → Least y j
unfolding le lt eq
least-up nan y j k h L M = absurd L
least-up (inf s) y j k h L M = absurd L
least-up (fin true m e) y j k h L M = absurd L
least-up (fin false m e) nan j k h L M = absurd M
least-up (fin false m e) (inf t) j k h L M = absurd M
least-up (fin false m e) (fin true n d) j k h L M =
    let z : m * up e * down d ≡ 0 = eqb→eq _ _ (and_r (eqb (m * up e * down d) (n * up d * down e)) _ h) in
    absurd (omega (arith, mul-pos (least_pos j (m * up e) (down e) (down_pos e) L) (down_pos d)))
least-up (fin false m e) (fin false n d) j k h L M = no_less (n * up d) (down d) (m * up e) (down e) j (down_pos e) L (le_of (m * up e * down d) (n * up d * down e) h)

-- not negative, and at most what is at most k
pub le_upto : (x y : Float) (k : ℕ) → T (le nought x) → T (le x y) → Upto y k → Mag x k
unfolding le lt eq
le_upto nan y k p h U = absurd h
le_upto (inf true) y k p h U = absurd p
le_upto (inf false) nan k p h U = absurd h
le_upto (inf false) (inf t) k p h U = absurd U
le_upto (inf false) (fin t n d) k p h U = absurd h
le_upto (fin s m e) nan k p h U = absurd U
le_upto (fin s m e) (inf t) k p h U = absurd U
le_upto (fin s m e) (fin true n d) k p h U = absurd U
le_upto (fin true m e) (fin false n d) k p h U =
    let z : 0 * 1 * down e ≡ m * up e * 1 = eqb→eq _ _ (and_l (eqb (0 * 1 * down e) (m * up e * 1)) _ p) in
    le_trans (le_of_eq (none (m * up e) (down e) z)) zero-le
  where
    none : (a d : ℕ) → 0 * 1 * d ≡ a * 1 → a ≡ 0
    none a d z = omega (arith, zero-mul d)
le_upto (fin false m e) (fin false n d) k p h U =
    le_of_mul-le-mul_right (le_trans (le_of (m * up e * down d) (n * up d * down e) h) (le_trans (mul-le-mul_right (down e) U) (le_of_eq (mul_right_comm k (down d) (down e))))) (down_pos d)

-- `le` of two numbers that are not negative, as `lt` and `eq` have it
pub of_le : (a b : ℕ) → a ≤ b → T (ltb a b || (eqb a b && true))
of_le a b h = elim (eq-or-lt_of_le h) [ inl p ↦ or_right (ltb a b) _ (subst (λ (x : ℕ). T (eqb a x && true)) p (and_i (eqb a a) true (eqb_refl a) tt)) | inr q ↦ or_left (ltb a b) _ (lt→ltb a b q) ]

-- at most k in size is at most the float k
pub mag_le : (x : Float) (n : ℕ) (d : ℤ) (k : ℕ) → 0 < k → k * down d ≤ n * up d → Mag x k → T (le x (fin false n d))
unfolding le lt eq
mag_le nan n d k K h M = absurd M
mag_le (inf s) n d k K h M = absurd M
mag_le (fin true m e) n d k K h M = or_left (ltb 0 (m * up e * down d + n * up d * down e)) _ (lt→ltb 0 (m * up e * down d + n * up d * down e) (more (m * up e * down d) (n * up d * down e) (mul-pos (lt_of_lt_of_le (mul-pos K (down_pos d)) h) (down_pos e))))
  where
    more : (a b : ℕ) → 0 < b → 0 < a + b
    more a b h = omega arith
mag_le (fin false m e) n d k K h M = of_le (m * up e * down d) (n * up d * down e) (le_trans (mul-le-mul_right (down d) M) (le_trans (le_of_eq (mul_right_comm k (down e) (down d))) (mul-le-mul_right (down e) h)))
