-- e^x at binary64. Definitions only. With b the bits of x:
--   1. A NaN gives a NaN; x at or above 1024 gives infinity, x at or below -1024 gives 0.
--   2. t = |x| * log2(e) in units of 2^-52, to the nearest, halves up: 13306513097844322492 is 2^63 * log2(e).
--   3. w = 2^63 + t or 2^63 - t, by the sign of x: its whole part n is 2048 more than that of x * log2(e), and its fraction is f / 2^64.
--   4. m = 2^63 * 2^(f / 2^64), nearly: a polynomial of degree 11, each product cut to its upper 64 bits.
--   5. m is rounded to 53 digits under its exponent, to fewer where the answer is subnormal; halves go up.
use Rattle.std.specs.Prelude.{ℕ, ◌+◌, ◌-◌, ◌*◌, ◌/◌, ◌%◌, ◌^◌, cond, from_bits, nat_lt, to_bits, Float}
use Rattle.std.specs.Float.{binary64}
use Rattle.powers.specs.Placed.{edged, placed64}

-- t, from the pattern of |x|: its digits, the leading one at 2^63, times the logarithm, shifted down by as much as |x| is below 512 to 1024
unfoldable pub scaled : ℕ → ℕ
scaled p = ((p % 4503599627370496 + 4503599627370496) * 2048 * 13306513097844322492 / 2 ^ (64 + (1032 - p / 4503599627370496)) + 1) / 2

-- w, from b
unfoldable pub sided : ℕ → ℕ
sided b = cond (nat_lt b 9223372036854775808) (9223372036854775808 + scaled (b % 9223372036854775808)) (9223372036854775808 - scaled (b % 9223372036854775808))

-- the upper half of a product
unfoldable pub high : ℕ → ℕ → ℕ
high a b = a * b / 18446744073709551616

-- m
unfoldable pub exp_mantissa : ℕ → ℕ
exp_mantissa f =
    9223372036854775808 + high f (12786308645202667078 + high f (4431396893595047327 + high f (1023870087593729323 + high f (177423165967312138 + high f
    (24596074363141346 + high f (2841446494121437 + high f (281371416557637 + high f (24365137105993 + high f (1891383853468 + high f (121001960384 + high f 11554055366)))))))))) / 2

-- the answer's pattern, from w
unfoldable pub exp_bits : ℕ → ℕ
exp_bits w = placed64 (w / 4503599627370496) (exp_mantissa (w % 4503599627370496 * 4096))

unfoldable pub exp64 : Float → Float
exp64 = edged (λ (x : Float). from_bits binary64 (exp_bits (sided (to_bits binary64 x))))
