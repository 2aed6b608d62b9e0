-- The square root of an f32, correctly rounded, step by step. Definitions only.
--   1. NaN and what is below 0 give NaN; either zero and infinity give themselves.
--   2. Any other number is m * 2^(j - 172), with the digits m and the rung j (Rung.antt).
--   3. It is n * 2^(2 e) with n = m * 2^23 for an odd rung, m * 2^24 for an even one, and e = (j + 1) / 2 - 98. So n lies from 2^46 to below 2^48.
--   4. r is the whole number nearest to the root of n: (2 r - 1)^2 < 4 n < (2 r + 1)^2. No tie is possible, for 4 n is even and an odd number's square is odd.
--   5. The answer is r * 2^e, whose exponent field is (j + 1) / 2 + 52, since r lies from 2^23 to below 2^24.
use Rattle.std.specs.Prelude.{ℕ, zero, suc, ◌+◌, ◌-◌, ◌*◌, ◌/◌, ◌%◌, ◌^◌, ◌≤◌, ◌<◌, false, cond, pos, T, ltb, eqb, Float}
use Rattle.std.specs.Float.{nan, inf, fin, binary32}
use Rattle.std.specs.Float.Ieee.{fits, is_nan, lt, eq, of_bits, to_bits}
use Rattle.std.specs.Float.Ieee.Exact.{HasValue}
use Rattle.elementary.specs.Rung.{rung_of, digits_of}

abbrev pub square : ℕ → ℕ
square a = a * a

-- r is the whole number nearest to the root of n: the root lies above the middle of r - 1 and r, and below that of r and r + 1
pub record NearestRoot (n r : ℕ) : Type 0 where
  pub below : square (2 * r - 1) < 4 * n
  pub above : 4 * n < square (2 * r + 1)

-- how many of the first k odd numbers have a square below 4 n. 2 i + 1 is twice the middle between i and i + 1.
unfoldable pub middles_below : ℕ → ℕ → ℕ
middles_below zero n = 0
middles_below (suc i) n = middles_below i n + cond (ltb (square (2 * i + 1)) (4 * n)) 1 0

-- the whole number nearest to the root of n: one for each middle that the root is above
unfoldable pub nearest_root : ℕ → ℕ
unfolding middles_below
nearest_root n = middles_below n n

-- the number with the pattern b as n * 2^(2 e)
unfoldable pub scaled_of : ℕ → ℕ
scaled_of b = cond (eqb (rung_of b % 2) 1) (digits_of b * 8388608) (digits_of b * 16777216)

-- the pattern of its root; r's leading digit, 2^23, adds one to the exponent's field
unfoldable pub root_bits : ℕ → ℕ
root_bits b = ((rung_of b + 1) / 2 + 51) * 8388608 + nearest_root (scaled_of b)

unfoldable pub sqrt_of : Float → Float
sqrt_of x =
    cond (is_nan x) nan
    (cond (lt x (fin false 0 (pos 0))) nan
    (cond (eq x (fin false 0 (pos 0))) x
    (cond (eq x (inf false)) x
    (of_bits binary32 (root_bits (to_bits binary32 x))))))

-- ---- what IEEE 754 says of it
-- y is the root of x, rounded to nearest: x is n * 2^(2 e) and y is r * 2^e, where e is h - 98 and r is the whole number nearest to the root of n.
-- n has 47 or 48 digits, so r has 24, as many as an f32 keeps.
pub record RootRounded (x y : Float) : Type 0 where
  pub n : ℕ
  pub r : ℕ
  pub h : ℕ
  pub argument : HasValue x false (n * 2 ^ (2 * h)) (2 ^ (2 * 98))
  pub answer : HasValue y false (r * 2 ^ h) (2 ^ 98)
  pub nearest : NearestRoot n r
  pub from : 2 ^ 46 ≤ n
  pub to : n < 2 ^ 48
  pub lead : 2 ^ 23 ≤ r
  pub few : r < 2 ^ 24

-- y is nearer to the root of x than any other float z is: the middle of y and z lies on z's side of the root.
-- In units of 2^-149, of which every f32 is a whole number, y is b and z is c; x is a units of 2^-298.
pub record Closest (x y : Float) : Type 0 where
  pub a : ℕ
  pub b : ℕ
  pub argument : HasValue x false a (2 ^ 298)
  pub answer : HasValue y false b (2 ^ 149)
  pub below : (z : Float) (c : ℕ) → T (fits binary32 z) → HasValue z false c (2 ^ 149) → c < b → square (b + c) < 4 * a
  pub above : (z : Float) (c : ℕ) → T (fits binary32 z) → HasValue z false c (2 ^ 149) → b < c → 4 * a < square (b + c)
