-- How a power becomes a float, at either width: what lies too far out, and the pattern of what does not. Definitions only.
use Rattle.std.specs.Prelude.{ℕ, ◌+◌, ◌-◌, ◌*◌, ◌/◌, ◌^◌, min, true, false, cond, pos, is_nan, Float}
use Rattle.std.specs.Float.{nan, inf, fin}
use Rattle.std.specs.Float.Ieee.{lt}

-- A NaN stays one; from 1024 on a power of any of our bases is past the largest float, down from -1024 it is 0.
unfoldable pub edged : (Float → Float) → Float → Float
edged within x =
    cond (is_nan x) nan
    (cond (lt x (fin false 1 (pos 10)))
    (cond (lt (fin true 1 (pos 10)) x) (within x) (fin false 0 (pos 0)))
    (inf false))

-- The pattern of m * 2^(n - k), rounded once, halves up. m has its leading digit at hid * 2 * half, and its exponent's field is 1 where n is k.
-- Above k the field counts the steps, and the leading digit adds the one that is missing; below it m drops a digit a step and the field stays 0.
-- A carry of the rounding runs into the field by itself, and from the field of an infinity on all is the infinity.
unfoldable pub placed : ℕ → ℕ → ℕ → ℕ → ℕ → ℕ → ℕ
placed hid half infinity k n m = min ((n - k) * hid + (m / 2 ^ (k - n) + half) / (2 * half)) infinity

-- binary32, m from 2^62 to below 2^63; and binary64, m from 2^63 to below 2^64
abbrev pub placed32 : ℕ → ℕ → ℕ
placed32 n m = placed 8388608 274877906944 0x7f800000 0x41380001 n m

abbrev pub placed64 : ℕ → ℕ → ℕ
placed64 n m = placed 4503599627370496 1024 0x7ff0000000000000 1026 n m
