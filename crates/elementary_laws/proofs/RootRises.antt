-- sqrt never falls as its argument rises from zero on; its bounds for callers; its special cases.
use mathlib.Core.Path.{◌≡◌, refl, ap, ◌∙◌, subst, subst⁻¹}
use mathlib.Core.Logic.{inl, inr}
use mathlib.Core.Bool.{Bool, true, false, cond}
use Prim.Native.Nat.{ℕ, ◌+◌, ◌*◌, ◌/◌, ◌^◌, ◌≤◌, ◌<◌}
use native.Mathlib.Nat.{mul-pos, mul-le-mul_right, le_of_mul-le-mul_right, lt_of_lt_of_le, eq-or-lt_of_le}
use native.Mathlib.Nat as N
use native.Mathlib.Omega.{arith}
use lib.IntN.{pos, negsuc}
use lib.Dec.{T, ltb, leb→le, ltb→lt, lt→ltb}
use lib.Pow.{pow_pos}
use lib.Ieee.{Float, nan, inf, fin, binary32, fits, is_nan, lt, eq, le, up, down, of_bits, to_bits}
use lib.Ieee.Bits.{of_bits-fits}
use lib.Ieee.Fits.{nan-fits, up_pos}
use lib.Ieee.Positive.{positive, positive-finite}
use lib.Ieee.Scale.{finite}
use Rattle.floats_laws.proofs.Patterns.{val_mono, bits_mono}
use Rattle.floats_laws.proofs.PositiveBits.{positive-above, positive-under, pattern-positive}
use Rattle.floats_laws.proofs.Rules.{le_trans}
use Rattle.floats_laws.proofs.ToBits.{to_bits_mono}
use Rattle.elementary.specs.Rung.{rung_of, digits_of}
use Rattle.elementary.specs.Sqrt.{square, nearest_root, scaled_of, root_bits, sqrt_of}
use Rattle.elementary.proofs.RootNearest.{sqrt-is, scaled, scaled_value}
use Rattle.elementary.proofs.Rungs.{parts, under}
use Rattle.elementary.proofs.Squares.{root_is, root_mono, perfect}
use Rattle.elementary.proofs.Tested.{passed, Level, none, some, most, at-least_zero, under_infinity, rises-to}
use Rattle.floats_laws.proofs.Rising.{nought, past-highest, or_left, or_right}

-- ---- over patterns
level : (n m k : ℕ) → n * 2 ^ k * 2 ^ 149 ≤ m * 2 ^ k * 2 ^ 149 → n ≤ m
level n m k h = le_of_mul-le-mul_right (le_of_mul-le-mul_right h (pow_pos 149)) (pow_pos k)

pub patterns_rise : (b c : ℕ) → 0 < b → b ≤ c → c < 2139095040 → root_bits b ≤ root_bits c
unfolding root_bits
patterns_rise b c p h k =
    let s = scaled b p (N.lt_of_le_of_lt h k) in
    let t = scaled c (lt_of_lt_of_le p h) k in
    elim (eq-or-lt_of_le (halves (rung_of b) (rung_of c) (under b c p h k).rungs)) [
      | inl e ↦
          let g : scaled_of b * 2 ^ (2 * ((rung_of c + 1) / 2)) * 2 ^ 149 ≤ scaled_of c * 2 ^ (2 * ((rung_of c + 1) / 2)) * 2 ^ 149 =
          subst (λ (i : ℕ). scaled_of b * 2 ^ (2 * i) * 2 ^ 149 ≤ scaled_of c * 2 ^ (2 * ((rung_of c + 1) / 2)) * 2 ^ 149) e
          (rw (scaled_value b (parts b p (N.lt_of_le_of_lt h k)), scaled_value c (parts c (lt_of_lt_of_le p h) k)) (mul-le-mul_right (2 ^ 196) (val_mono 8388608 b c (pow_pos 23) h))) in
          same ((rung_of b + 1) / 2) ((rung_of c + 1) / 2) (nearest_root (scaled_of b)) (nearest_root (scaled_of c)) e (root_mono (scaled_of b) (scaled_of c) (omega (arith, s.from)) (level (scaled_of b) (scaled_of c) (2 * ((rung_of c + 1) / 2)) g))
      | inr l ↦ next ((rung_of b + 1) / 2) ((rung_of c + 1) / 2) (nearest_root (scaled_of b)) (nearest_root (scaled_of c)) l s.few t.lead
    ]
  where
    halves : (i j : ℕ) → i ≤ j → (i + 1) / 2 ≤ (j + 1) / 2
    halves i j h = omega arith

    same : (g h q r : ℕ) → g ≡ h → q ≤ r → (g + 51) * 8388608 + q ≤ (h + 51) * 8388608 + r
    same g h q r e l = omega arith

    next : (g h q r : ℕ) → g < h → q < 16777216 → 8388608 ≤ r → (g + 51) * 8388608 + q ≤ (h + 51) * 8388608 + r
    next g h q r l a b = omega arith

-- ---- special cases
pub sqrt_nan : sqrt_of nan ≡ nan
unfolding sqrt_of is_nan
sqrt_nan = refl

pub sqrt-below : (x : Float) → lt x nought ≡ true → sqrt_of x ≡ nan
unfolding sqrt_of
sqrt-below x h = rw h (either (is_nan x))
  where
    either : (b : Bool) → cond b nan nan ≡ nan
    either true = refl
    either false = refl

pub sqrt_zero : (s : Bool) → sqrt_of (fin s 0 (pos 0)) ≡ fin s 0 (pos 0)
unfolding sqrt_of is_nan lt eq
sqrt_zero true = refl
sqrt_zero false = refl

pub sqrt_infinity : sqrt_of (inf false) ≡ inf false
unfolding sqrt_of is_nan lt eq
sqrt_infinity = refl

sqrt-none : (x : Float) → eq x nought ≡ true → lt x nought ≡ false → is_nan x ≡ false → sqrt_of x ≡ x
unfolding sqrt_of
sqrt-none x a b c = rw (c, b, a)

root_positive : (x : Float) → T (fits binary32 x) → T (positive x) → T (positive (sqrt_of x))
unfolding root_bits
root_positive x f p =
    let b = to_bits binary32 x in
    let s = scaled b (positive-above binary32 x f p) (positive-under binary32 x f p) in
    rw (sqrt-is x p) (pattern-positive binary32 (root_bits b) (omega (arith, s.lead)) s.under)

pub sqrt-fits : (x : Float) → T (fits binary32 x) → T (fits binary32 (sqrt_of x))
unfolding sqrt_of
sqrt-fits x f = go (is_nan x) (lt x nought) (eq x nought) (eq x (inf false)) (root_bits (to_bits binary32 x))
  where
    go : (a b c d : Bool) (n : ℕ) → T (fits binary32 (cond a nan (cond b nan (cond c x (cond d x (of_bits binary32 n))))))
    go true b c d n = nan-fits binary32
    go false true c d n = nan-fits binary32
    go false false true d n = f
    go false false false true n = f
    go false false false false n = of_bits-fits binary32 n

-- a zero is at most what is above zero
nought_under : (y : Float) → T (positive y) → T (le nought y)
unfolding le lt
nought_under nan p = absurd p
nought_under (inf s) p = absurd p
nought_under (fin true n d) p = absurd p
nought_under (fin false n d) p = or_left (ltb (0 * 1 * down d) (n * up d * 1)) _ (lt→ltb (0 * 1 * down d) (n * up d * 1) (past (down d) (mul-pos (mul-pos (ltb→lt 0 n p) (up_pos d)) (pow_pos 0))))
  where
    past : {a : ℕ} (k : ℕ) → 0 < a → 0 * 1 * k < a
    past k h = omega arith

zero_under : (x y : Float) → T (fits binary32 x) → T (fits binary32 y) → eq x nought ≡ true → T (positive y) → T (le x y)
unfolding le fits
zero_under x y f g h p = le_trans binary32 x nought y f tt g (or_right (lt x nought) (eq x nought) (subst⁻¹ T h tt)) (nought_under y p)

-- ---- THE CLAIM
pub sqrt-rises : (x y : Float) → T (fits binary32 x) → T (fits binary32 y) → T (le nought x) → T (le x y) → T (le (sqrt_of x) (sqrt_of y))
unfolding fits is_nan
sqrt-rises x y f g h k = go (at-least_zero x h)
  where
    positives : T (positive x) → T (positive y) → T (le (sqrt_of x) (sqrt_of y))
    positives p q =
        rw (sqrt-is x p, sqrt-is y q)
        (bits_mono binary32 (root_bits (to_bits binary32 x)) (root_bits (to_bits binary32 y))
        (patterns_rise (to_bits binary32 x) (to_bits binary32 y) (positive-above binary32 x f p) (to_bits_mono binary32 x y p q k) (positive-under binary32 y g q))
        (scaled (to_bits binary32 y) (positive-above binary32 y g q) (positive-under binary32 y g q)).under)

    go : Level x → T (le (sqrt_of x) (sqrt_of y))
    go (none a b c) = rw (sqrt-none x a b c) (over (at-least_zero y (le_trans binary32 nought x y tt f g h k)))
      where
        over : Level y → T (le x (sqrt_of y))
        over (none a' b' c') = rw (sqrt-none y a' b' c') k
        over (some q) = zero_under x (sqrt_of y) f (sqrt-fits y g) a (root_positive y g q)
        over (most e) = rw (e, sqrt_infinity) (under_infinity x c)
    go (some p) = elim (rises-to x y p k) [
      | inl q ↦ positives p q
      | inr e ↦ rw (e, sqrt_infinity) (under_infinity (sqrt_of x) (passed (sqrt_of x) (root_positive x f p)).number)
    ]
    go (most e) = rw (past-highest y (subst (λ (z : Float). T (le z y)) e k), e, sqrt_infinity) (under_infinity (inf false) refl)

-- ---- bounds for callers
pub sqrt-finite : (x : Float) → T (fits binary32 x) → T (le nought x) → T (finite x) → T (finite (sqrt_of x)) × T (le nought (sqrt_of x))
sqrt-finite x f h k = go (at-least_zero x h)
  where
    go : Level x → T (finite (sqrt_of x)) × T (le nought (sqrt_of x))
    go (none a b c) = rw (sqrt-none x a b c) (k, h)
    go (some p) = (positive-finite (sqrt_of x) (root_positive x f p), nought_under (sqrt_of x) (root_positive x f p))
    go (most e) = absurd (subst (λ (z : Float). T (finite z)) e k)

-- the root of a number whose scaled digits are a square: computed at any such number
pub square_root : (x : Float) (r : ℕ) → T (positive x) → scaled_of (to_bits binary32 x) ≡ square r → 0 < r → sqrt_of x ≡ of_bits binary32 (((rung_of (to_bits binary32 x) + 1) / 2 + 51) * 8388608 + r)
unfolding root_bits
square_root x r p e q = sqrt-is x p ∙ ap (λ (n : ℕ). of_bits binary32 (((rung_of (to_bits binary32 x) + 1) / 2 + 51) * 8388608 + n)) (ap nearest_root e ∙ root_is (square r) r (perfect r q))

-- 1/256, 1/16, 36 and 6
abbrev pub lowest : Float
lowest = fin false 1 (negsuc 7)

abbrev pub lowest_root : Float
lowest_root = fin false 1 (negsuc 3)

abbrev pub highest : Float
highest = fin false 9 (pos 2)

abbrev pub highest_root : Float
highest_root = fin false 3 (pos 1)

lowest-is : sqrt_of lowest ≡ lowest_root
unfolding to_bits of_bits scaled_of rung_of digits_of
lowest-is = square_root lowest 8388608 tt refl (pow_pos 23)

highest-is : sqrt_of highest ≡ highest_root
unfolding to_bits of_bits scaled_of rung_of digits_of
highest-is = square_root highest 12582912 tt refl (leb→le 1 12582912 tt)

pub sqrt-window : (x : Float) → T (fits binary32 x) → T (le lowest x) → T (le x highest) → T (le lowest_root (sqrt_of x)) × T (le (sqrt_of x) highest_root)
unfolding fits le lt eq
sqrt-window x f h k = (
  subst (λ (y : Float). T (le y (sqrt_of x))) lowest-is (sqrt-rises lowest x tt f tt h),
  subst (λ (y : Float). T (le (sqrt_of x) y)) highest-is (sqrt-rises x highest f tt (le_trans binary32 nought lowest x tt tt f tt h) k),
)
