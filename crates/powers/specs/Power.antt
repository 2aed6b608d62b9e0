-- 2^x, e^x, 8^x and 10^x at binary32, and a level in decibels as a gain. Definitions only. With c the base's logarithm to base 2:
--   1. A NaN gives a NaN; x at or above 1024 gives infinity, x at or below -1024 gives 0.
--   2. z = x * c + 1572991.0 in binary64, with its two roundings. z lies between 2^20 and 2^21, where floats are 2^-32 apart, so its bits w count
--      x * c + 127 in units of 2^-32: the upper half is the answer's exponent field plus 0x4138_0000, the lower half f is the fraction.
--   3. m = 2^62 * 2^(f / 2^32), nearly: start + r * (slope + bend * r / 2^26), by the cell of f's first six digits, with the other 26 as r.
--   4. m is rounded to 24 digits under its exponent, to fewer where the answer is subnormal; halves go up.
use Rattle.std.specs.Prelude.{ℕ, ◌+◌, ◌*◌, ◌/◌, ◌%◌, from_bits, to_bits, Float}
use Rattle.std.specs.Float.{binary32, binary64}
use Rattle.floats.specs.Names.{f32, f64, add64, mul64, div32}
use Rattle.powers.specs.PowerCells.{power_start, power_slope, power_bend}
use Rattle.powers.specs.Placed.{edged, placed32}

-- z
unfoldable pub lifted : Float → Float → Float
lifted c x = add64 (mul64 x c) (f64 0x4138007f00000000)

-- m, by a cell's three numbers, by the cell's number, and by f
abbrev pub curve : ℕ → ℕ → ℕ → ℕ → ℕ
curve start slope bend r = start + r * (slope + bend * r / 67108864)

abbrev pub in_cell : ℕ → ℕ → ℕ
in_cell i r = curve (power_start i) (power_slope i) (power_bend i) r

unfoldable pub mantissa : ℕ → ℕ
mantissa f = in_cell (f / 67108864) (f % 67108864)

-- the answer's pattern, from w
unfoldable pub power_bits : ℕ → ℕ
power_bits w = placed32 (w / 4294967296) (mantissa (w % 4294967296))

unfoldable pub power : Float → Float → Float
power c = edged (λ (x : Float). from_bits binary32 (power_bits (to_bits binary64 (lifted c x))))

-- c is 1.0
unfoldable pub exp2 : Float → Float
exp2 x = power (f64 0x3ff0000000000000) x

-- c is 1.4426950408889634
unfoldable pub exp : Float → Float
exp x = power (f64 0x3ff71547652b82fe) x

-- c is 3.0
unfoldable pub pow8 : Float → Float
pow8 x = power (f64 0x4008000000000000) x

-- c is 3.321928094887362
unfoldable pub pow10 : Float → Float
pow10 x = power (f64 0x400a934f0979a371) x

-- 002's: 10^(db / 20.0)
unfoldable pub db_to_gain : Float → Float
db_to_gain db = pow10 (div32 db (f32 0x41a00000))
