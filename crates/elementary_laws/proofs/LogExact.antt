-- log2 is exact at each of the 277 powers of two that an f32 holds, by one computed test; and its special cases.
use mathlib.Core.Path.{◌≡◌, refl, sym, ap, ◌∙◌}
use mathlib.Core.Bool.{Bool, true, false, cond}
use Prim.Native.Nat.{ℕ, ◌<◌}
use lib.IntN.{pos}
use lib.Dec.{T, eqb, eqb→eq}
use lib.Count.{count_leading_zeros, count_trailing_zeros}
use lib.Ieee.{Float, nan, inf, fin, binary32, fits, is_nan, lt, eq, minus, to_bits, round, sum, add, sub, neg, mul, of_int, of_bits, of_fields, size, span, climb, units, odd}
use lib.Ieee.Bits.{of_bits-to_bits}
use lib.Ieee.Fits.{add-fits, of_int-fits, nan-fits, inf-fits}
use Rattle.sequences.specs.All.{all, all-at}
use Rattle.elementary.specs.Rung.{rung_of, digits_of}
use Rattle.elementary.specs.LogCells.{log_tops, log_top, log_slopes, log_slope, log_bends, log_bend}
use Rattle.elementary.specs.Log2.{fall_of, cell_of, fraction_of, joined_of, log_of, log2_of}
use Rattle.floats_laws.proofs.Rising.{nought}

-- 2^(k - 149), and k - 149
abbrev pub power : ℕ → Float
power k = fin false 1 (minus k 149)

abbrev pub exponent : ℕ → Float
exponent k = of_int binary32 (minus k 149)

unfoldable exact : ℕ → Bool
exact k = eqb (to_bits binary32 (log2_of (power k))) (to_bits binary32 (exponent k))

all-exact : T (all exact 277)
unfolding exact log2_of log_of rung_of digits_of joined_of fraction_of cell_of fall_of log_top log_tops log_slope log_slopes log_bend log_bends is_nan lt eq sub add neg sum round size span climb units odd count_trailing_zeros count_leading_zeros of_int of_bits of_fields mul to_bits
all-exact = tt

pub log2-fits : (x : Float) → T (fits binary32 (log2_of x))
unfolding log2_of log_of joined_of
log2-fits x = go (is_nan x) (lt x nought) (eq x nought) (eq x (inf false)) (to_bits binary32 x)
  where
    go : (a b c d : Bool) (n : ℕ) → T (fits binary32 (cond a nan (cond b nan (cond c (inf true) (cond d (inf false) (log_of n))))))
    go true b c d n = nan-fits binary32
    go false true c d n = nan-fits binary32
    go false false true d n = inf-fits binary32 true
    go false false false true n = inf-fits binary32 false
    go false false false false n = add-fits binary32 _ _

pub log2-exact : (k : ℕ) → k < 277 → log2_of (power k) ≡ exponent k
unfolding exact
log2-exact k h =
    sym (of_bits-to_bits binary32 (log2_of (power k)) (log2-fits (power k)))
    ∙ ap (of_bits binary32) (eqb→eq (to_bits binary32 (log2_of (power k))) (to_bits binary32 (exponent k)) (all-at exact 277 all-exact k h))
    ∙ of_bits-to_bits binary32 (exponent k) (of_int-fits binary32 (minus k 149))

-- ---- what is no finite number above zero
pub log2_nan : log2_of nan ≡ nan
unfolding log2_of is_nan
log2_nan = refl

pub log2-below : (x : Float) → lt x nought ≡ true → log2_of x ≡ nan
unfolding log2_of
log2-below x h = rw h (either (is_nan x))
  where
    either : (b : Bool) → cond b nan nan ≡ nan
    either true = refl
    either false = refl

pub log2_zero : (s : Bool) → log2_of (fin s 0 (pos 0)) ≡ inf true
unfolding log2_of is_nan lt eq
log2_zero true = refl
log2_zero false = refl

pub log2_infinity : log2_of (inf false) ≡ inf false
unfolding log2_of is_nan lt eq
log2_infinity = refl
