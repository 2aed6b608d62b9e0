-- Two stages x and r from 1 / 500 to 5, as f32s: their sum lies from 1 / 512 to 10, and x is a part of it that stays clear of 0 and of 1.
-- The sum is at least k / 1024, where k is the next but one whole number above 1024 x: that is a float, so rounding does not pass it.
use Prim.Native.Nat.{ℕ, ◌+◌, ◌*◌, ◌/◌, ◌%◌, ◌^◌, ◌≤◌, ◌<◌}
use native.Mathlib.Nat.{le_trans, le_of_eq, lt_of_le_of_lt, mul_comm, mul_assoc, mul_right_comm, mul-pos, zero-mul, add-mul, mul-le-mul_right, mul-le-mul, le_of_mul-le-mul_right, mul-mul-mul_comm, div-add-mod', mod-lt}
use native.Mathlib.Omega.{arith}
use mathlib.Core.Path.{◌≡◌, sym, ap, ◌∙◌, refl}
use mathlib.Core.Bool.{true, false, true≢false}
use lib.IntN.{ℤ}
use lib.Dec.{T, eqb, eqb→eq, lit≤, lit<}
use lib.Pow.{pow_pos}
use lib.Ieee.{Float, nan, inf, fin, binary32, up, down, of_bits, round, add, sum, div, lt, le, eq, fits}
use lib.Ieee.Fits.{down_pos}
use lib.Ieee.Exact.{HasValue}
use lib.Ieee.Order.{round_mono}
use denote.Floats.{passes}
use Rattle.sequences.specs.Pick.{by-case}
use Rattle.floats.specs.Names.{add32, div32, one}
use Rattle.floats_laws.proofs.Mag.{Upto, Least, le_of}
use Rattle.floats_laws.proofs.Rising.{nought}
use Rattle.floats_laws.proofs.Bounds.{add_upto}
use Rattle.floats_laws.proofs.Spans.{le_lt, lt_le}
use Rattle.floats_laws.proofs.Fractions.{held}

-- ---- numbers on the grid of 1 / 1024
-- at least k / 1024, as a fraction
abbrev Above : Float → ℕ → Type 0
Above nan k = ⊥
Above (inf s) k = ⊥
Above (fin true p g) k = ⊥
Above (fin false p g) k = k * down g ≤ p * up g * 1024

above : (y l : Float) (k j : ℕ) → T (le y l) → HasValue y false k 1024 → Upto l j → Above l k
unfolding le lt eq
above nan l k j h v u = absurd v
above (inf s) l k j h v u = absurd v
above (fin true n d) l k j h v u = absurd (true≢false v.0)
above (fin false n d) nan k j h v u = absurd u
above (fin false n d) (inf s) k j h v u = absurd u
above (fin false n d) (fin true p g) k j h v u = absurd u
above (fin false n d) (fin false p g) k j h v u = cross (n * up d) (down d) (p * up g) (down g) (down_pos d) (le_of (n * up d * down g) (p * up g * down d) h) v.1
  where
    cross : (a b c e : ℕ) → 0 < b → a * e ≤ c * b → a * 1024 ≡ k * b → k * e ≤ c * 1024
    cross a b c e B h w =
        le_of_mul-le-mul_right
        (le_trans (le_of_eq (mul_right_comm k e b ∙ ap (λ (z : ℕ). z * e) (sym w) ∙ mul_right_comm a 1024 e)) (le_trans (mul-le-mul_right 1024 h) (le_of_eq (mul_right_comm c b 1024)))) B

-- ---- in whole numbers: x is A / v and r is B / w
module _ (A v B w : ℕ) (C : 0 < v) (U : A ≤ 5 * v) (M : v ≤ 500 * A) (L : w ≤ 500 * B) where
  abbrev q : ℕ
  q = A * 1024 / v

  abbrev k : ℕ
  k = q + 2

  cut : q * v + A * 1024 % v ≡ A * 1024
  cut = div-add-mod' (A * 1024) v

  few : q ≤ 5120
  few = le_of_mul-le-mul_right (omega (arith, cut, U)) C

  -- k / 1024 is at most x + r
  sum-least : k * (v * w) ≤ (A * w + B * v) * 1024
  sum-least =
      let a : q * v * w ≤ A * 1024 * w = mul-le-mul_right w (omega (arith, cut)) in
      let b : w * v ≤ 500 * B * v = mul-le-mul_right v L in
      omega (arith, add-mul q 2 (v * w), mul_assoc q v w, a, b, mul_right_comm A 1024 w, mul_assoc 500 B v, mul_comm w v)

  -- the sum is P / z
  module _ (P z : ℕ) (K : k * z ≤ P * 1024) (T10 : P ≤ 10 * z) where
    -- the part that x is of it
    part_most : A * z * 8192 ≤ 8191 * (P * v)
    part_most =
        let a : A * 1024 * z ≤ (q + 1) * v * z = mul-le-mul_right z (omega (arith, cut, mod-lt (A * 1024) C, add-mul q 1 v)) in
        let b : k * z * v ≤ P * 1024 * v = mul-le-mul_right v K in
        let c : q * (v * z) ≤ 5120 * (v * z) = mul-le-mul_right (v * z) few in
        omega (arith, a, b, c, mul_right_comm A 1024 z, mul_assoc (q + 1) v z, add-mul q 1 (v * z), mul_assoc k z v, ap (λ (t : ℕ). k * t) (mul_comm z v), add-mul q 2 (v * z), mul_right_comm P 1024 v)

    part-least : 1 * (P * v) ≤ A * z * 8192
    part-least =
        let a : P * v ≤ 10 * z * (500 * A) = mul-le-mul T10 M in
        omega (arith, a, mul-mul-mul_comm 10 z 500 A, mul_comm z A)

-- ---- in floats
-- a part of l that lies strictly between 0 and 1
abbrev pub Part : Float → Type 0
Part a = T (lt nought a) × T (lt a one)

lowest : Float
lowest = round binary32 false 1 8192

highest : Float
highest = round binary32 false 8191 8192

between : (a b : ℕ) → 0 < b → 1 * b ≤ a * 8192 → a * 8192 ≤ 8191 * b → Part (round binary32 false a b)
unfolding lowest highest round lt of_bits fits
between a b B h g = (
  lt_le nought lowest (round binary32 false a b) tt (round_mono binary32 1 8192 a b (pow_pos 13) B h),
  le_lt (round binary32 false a b) highest one (round_mono binary32 a b 8191 8192 B (pow_pos 13) g) tt,
)

-- of a sum l that is at least k / 1024
part_of : (m : ℕ) (e : ℤ) (B w : ℕ) (l : Float) → m * up e ≤ 5 * down e → down e ≤ 500 * (m * up e) → w ≤ 500 * B → Upto l 10 → Above l (m * up e * 1024 / down e + 2) → Part (div32 (fin false m e) l)
unfolding div
part_of m e B w nan U M L u h = absurd u
part_of m e B w (inf s) U M L u h = absurd u
part_of m e B w (fin true p g) U M L u h = absurd u
part_of m e B w (fin false p g) U M L u h =
    by-case (eqb p 0) (λ z. absurd (something (eqb→eq p 0 (passes _ z))))
    (λ z.
    rw z
    (between (m * up e * down g) (p * up g * down e) (mul-pos positive (down_pos e)) (part-least (m * up e) (down e) B w (down_pos e) U M L (p * up g) (down g) h u)
    (part_most (m * up e) (down e) B w (down_pos e) U M L (p * up g) (down g) h u)))
  where
    positive : 0 < p * up g
    positive = more (m * up e * 1024 / down e) (p * up g) (down g) (down_pos g) h
      where
        more : (j a b : ℕ) → 0 < b → (j + 2) * b ≤ a * 1024 → 0 < a
        more j a b B h = omega (arith, add-mul j 2 b)

    something : p ≡ 0 → ⊥
    something z = let y : p * up g ≡ 0 = ap (λ (j : ℕ). j * up g) z ∙ zero-mul (up g) in omega (arith, positive)

sum-above : (m : ℕ) (e : ℤ) (n : ℕ) (g : ℤ) (k : ℕ) → k * (down e * down g) ≤ (m * up e * down g + n * up g * down e) * 1024 → T (le (round binary32 false k 1024) (add32 (fin false m e) (fin false n g)))
unfolding add sum
sum-above m e n g k h = round_mono binary32 k 1024 (m * up e * down g + n * up g * down e) (down e * down g) (pow_pos 10) (mul-pos (down_pos e) (down_pos g)) h

-- and l is no less than 1 / 512
far : (l : Float) (j : ℕ) → Above l (j + 2) → Least l 512
far nan j h = h
far (inf s) j h = h
far (fin true p g) j h = h
far (fin false p g) j h = half j (down g) (p * up g) h
  where
    half : (j b a : ℕ) → (j + 2) * b ≤ a * 1024 → b ≤ 512 * a
    half j b a h = omega (arith, add-mul j 2 b, h)

pub stage_part : (x r : Float) → Upto x 5 → Least x 500 → Upto r 5 → Least r 500 → Least (add32 x r) 512 × Part (div32 x (add32 x r))
stage_part nan r a b c d = absurd a
stage_part (inf s) r a b c d = absurd a
stage_part (fin true m e) r a b c d = absurd a
stage_part (fin false m e) nan a b c d = absurd c
stage_part (fin false m e) (inf s) a b c d = absurd c
stage_part (fin false m e) (fin true n g) a b c d = absurd c
stage_part (fin false m e) (fin false n g) a b c d = (far l j high, part_of m e (n * up g) (down g) l a b d top high)
  where
    l : Float
    l = add32 (fin false m e) (fin false n g)

    j : ℕ
    j = m * up e * 1024 / down e

    top : Upto l 10
    top = add_upto binary32 (fin false m e) (fin false n g) 5 5 (lit≤ tt) a c

    room : 5122 < 2 ^ 24
    room = lit< tt

    small : j + 2 < 2 ^ 24
    small = lt_of_le_of_lt (omega (arith, few (m * up e) (down e) (n * up g) (down g) (down_pos e) a b d)) room

    high : Above l (j + 2)
    high = above (round binary32 false (j + 2) 1024) l (j + 2) 10 (sum-above m e n g (j + 2) (sum-least (m * up e) (down e) (n * up g) (down g) (down_pos e) a b d)) (held binary32 false 139 10 (j + 2) refl small) top
