-- log2 of an f32, step by step, with every constant. Definitions only.
--   1. NaN and what is below 0 give NaN, either zero gives minus infinity, infinity itself.
--   2. Any other number is (1 + p / 2^23) * 2^(j - 149), with the rung j and p = digits - 2^23 (Rung.antt).
--   3. p lies in cell i = p / 2^17 of 64, t = 2^17 - 1 - p % 2^17 steps before the cell's last place.
--   4. f = (top i - t * (slope i + bend i * t)) / 2^38, rounded down: log2 (1 + p / 2^23) in units of 2^-24.
--   5. The answer is f * 2^-24 + (j - 149) in f32, where only the sum rounds.
use Rattle.std.specs.Prelude.{ℕ, ◌+◌, ◌-◌, ◌*◌, ◌/◌, ◌%◌, true, false, cond, pos, Float}
use Rattle.std.specs.Float.{nan, inf, fin, binary32}
use Rattle.std.specs.Float.Ieee.{is_nan, lt, eq, of_int, to_bits}
use Rattle.floats.specs.Names.{f32, add32, sub32, mul32}
use Rattle.elementary.specs.LogCells.{log_top, log_slope, log_bend}
use Rattle.elementary.specs.Rung.{rung_of, digits_of}

-- the cell's parabola, t steps before the cell's last place (LogCells.antt)
unfoldable pub fall_of : ℕ → ℕ → ℕ
fall_of i t = t * (log_slope i + log_bend i * t)

unfoldable pub cell_of : ℕ → ℕ → ℕ
cell_of i t = log_top i - fall_of i t

unfoldable pub fraction_of : ℕ → ℕ
fraction_of p = cell_of (p / 131072) (131071 - p % 131072) / 274877906944

-- f * 2^-24 + (j - 149.0)
unfoldable pub joined_of : ℕ → ℕ → Float
joined_of j f = add32 (mul32 (of_int binary32 (pos f)) (f32 0x33800000)) (sub32 (of_int binary32 (pos j)) (f32 0x43150000))

-- the logarithm of the finite number above zero with the pattern b
unfoldable pub log_of : ℕ → Float
log_of b = joined_of (rung_of b) (fraction_of (digits_of b - 8388608))

unfoldable pub log2_of : Float → Float
log2_of x =
    cond (is_nan x) nan
    (cond (lt x (fin false 0 (pos 0))) nan
    (cond (eq x (fin false 0 (pos 0))) (inf true)
    (cond (eq x (inf false)) (inf false)
    (log_of (to_bits binary32 x)))))
