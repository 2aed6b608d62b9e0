-- The logarithms of 20, 440 / 20, 440 and 4186.01 that the code has as literals are what log2 gives, each by computing it.
use Rattle.std.proofs.Common.{◌≡◌, ℕ, T, sym, refl, ap, ◌∙◌}
use lib.Count.{count_leading_zeros, count_trailing_zeros}
use lib.Ieee.{Float, binary32, fits, is_nan, lt, eq, to_bits, round, sum, add, sub, neg, mul, div, of_int, of_bits, of_fields, size, span, climb, units, odd}
use lib.Ieee.Bits.{of_bits-to_bits}
use Rattle.floats.specs.Names.{f32, div32}
use Rattle.elementary.specs.Rung.{rung_of, digits_of}
use Rattle.elementary.specs.LogCells.{log_tops, log_top, log_slopes, log_slope, log_bends, log_bend}
use Rattle.elementary.specs.Log2.{fall_of, cell_of, fraction_of, joined_of, log_of, log2_of}
use Rattle.pitch.specs.Register.{min_hz, full_hz}

pub log_of_min : log2_of min_hz ≡ f32 0x408a4d3c
unfolding log2_of log_of rung_of digits_of joined_of fraction_of cell_of fall_of log_top log_tops log_slope log_slopes log_bend log_bends is_nan lt eq sub add neg sum round size span climb units odd count_trailing_zeros count_leading_zeros of_int of_bits of_fields mul to_bits
log_of_min = refl

pub log_of_range : log2_of (div32 full_hz min_hz) ≡ f32 0x408eb3aa
unfolding log2_of log_of rung_of digits_of joined_of fraction_of cell_of fall_of log_top log_tops log_slope log_slopes log_bend log_bends is_nan lt eq sub add neg sum round size span climb units odd count_trailing_zeros count_leading_zeros of_int of_bits of_fields mul div to_bits
log_of_range = refl

pub log_of_full : log2_of full_hz ≡ f32 0x410c8073
unfolding log2_of log_of rung_of digits_of joined_of fraction_of cell_of fall_of log_top log_tops log_slope log_slopes log_bend log_bends is_nan lt eq sub add neg sum round size span climb units odd count_trailing_zeros count_leading_zeros of_int of_bits of_fields mul to_bits
log_of_full = refl

pub log_of_top : log2_of (f32 0x4582d014) ≡ f32 0x41408073
unfolding log2_of log_of rung_of digits_of joined_of fraction_of cell_of fall_of log_top log_tops log_slope log_slopes log_bend log_bends is_nan lt eq sub add neg sum round size span climb units odd count_trailing_zeros count_leading_zeros of_int of_bits of_fields mul to_bits
log_of_top = refl

-- of the one float that has these bits
pub log_by_bits : (x : Float) (n : ℕ) (log : Float) → T (fits binary32 x) → to_bits binary32 x ≡ n → log2_of (f32 n) ≡ log → log2_of x ≡ log
log_by_bits x n log p e q = ap log2_of (sym (of_bits-to_bits binary32 x p) ∙ ap f32 e) ∙ q
