-- The free Cloud's constants: the lower end, the ramp, its slope and its mass, and what lies above them where the upper frequency is 4,000 or 20,000 Hz, each computed.
use mathlib.Core.Path.{◌≡◌, refl}
use lib.Count.{count_leading_zeros, count_trailing_zeros}
use lib.Dec.{T}
use lib.Ieee.{Float, is_nan, lt, le, eq, to_bits, round, sum, add, sub, neg, mul, div, of_int, of_bits, of_fields, size, span, climb, units, odd}
use lib.Ieee.Scale.{finite}
use Rattle.floats.specs.Names.{f32, add32, sub32, mul32, zero32, half, two}
use Rattle.floats_laws.proofs.Rising.{nought}
use Rattle.elementary.specs.Rung.{rung_of, digits_of}
use Rattle.elementary.specs.LogCells.{log_tops, log_top, log_slopes, log_slope, log_bends, log_bend}
use Rattle.elementary.specs.Log2.{fall_of, cell_of, fraction_of, joined_of, log_of, log2_of}
use Rattle.elementary_laws.proofs.RootRises.{lowest, lowest_root}
use Rattle.pitch.specs.Register.{min_hz, low_probability}
use Rattle.pitch.specs.Cloud.{ramp_of, mass_of}
use Rattle.pitch.specs.Cloud as cloud
use Rattle.pitch.proofs.Logs.{log_of_min, log_of_full}
use Rattle.pitch_laws.proofs.Tops.{least_hz, most_hz}

-- log2 of 20; the ramp, which is log2 of 22, its slope and its mass
unfoldable pub low : Float
low = f32 0x408a4d3c

unfoldable pub ramp : Float
ramp = f32 0x408eb3aa

unfoldable pub slope : Float
slope = f32 0x3e432e8c

unfoldable pub mass : Float
mass = f32 0x40241b6a

-- ---- the constants, computed
pub low-is : log2_of min_hz ≡ low
unfolding low
low-is = log_of_min

pub halved : mul32 least_hz half ≡ f32 0x44fa0000
unfolding mul round size span climb units odd count_trailing_zeros count_leading_zeros of_bits of_fields
halved = refl

pub ramp-is : ramp_of low ≡ ramp
unfolding low ramp ramp_of sub add neg sum round size span climb units odd count_trailing_zeros count_leading_zeros of_bits of_fields
ramp-is = rw log_of_full

pub slope-is : cloud.slope_of ramp ≡ slope
unfolding ramp slope cloud.slope_of sub add neg sum div round size span climb units odd count_trailing_zeros count_leading_zeros of_bits of_fields
slope-is = refl

pub mass-is : mass_of slope ramp ≡ mass
unfolding slope ramp mass mass_of mul add sum round size span climb units odd count_trailing_zeros count_leading_zeros of_bits of_fields
mass-is = refl

pub least_log : sub32 (log2_of least_hz) low ≡ f32 0x40f49a78
unfolding low log2_of log_of rung_of digits_of joined_of fraction_of cell_of fall_of log_top log_tops log_slope log_slopes log_bend log_bends is_nan lt eq sub add neg sum round size span climb units odd count_trailing_zeros count_leading_zeros of_int of_bits of_fields mul to_bits
least_log = refl

pub most_log : sub32 (log2_of most_hz) low ≡ f32 0x411f73da
unfolding low log2_of log_of rung_of digits_of joined_of fraction_of cell_of fall_of log_top log_tops log_slope log_slopes log_bend log_bends is_nan lt eq sub add neg sum round size span climb units odd count_trailing_zeros count_leading_zeros of_int of_bits of_fields mul to_bits
most_log = refl

pub least-rest : sub32 (f32 0x40f49a78) ramp ≡ f32 0x404bcd9c
unfolding ramp sub add neg sum round size span climb units odd count_trailing_zeros count_leading_zeros of_bits of_fields
least-rest = refl

pub square-is : mul32 low_probability low_probability ≡ f32 0x3cb851ec
unfolding mul round size span climb units odd count_trailing_zeros count_leading_zeros of_bits of_fields
square-is = refl

pub double-is : mul32 two slope ≡ f32 0x3ec32e8c
unfolding slope mul round size span climb units odd count_trailing_zeros count_leading_zeros of_bits of_fields
double-is = refl

pub least_divisor : add32 low_probability lowest_root ≡ f32 0x3e59999a
unfolding add sum round size span climb units odd count_trailing_zeros count_leading_zeros of_bits of_fields
least_divisor = refl

-- what is known of them by looking
pub record Looked : Type 0 where
  pub min_halved : T (le min_hz (f32 0x44fa0000))
  pub half_finite : T (finite half)
  pub half_from : T (le nought half)
  pub least_above : T (lt nought least_hz)
  pub least_itself : T (le least_hz least_hz)
  pub low_turned : T (finite (neg low))
  pub span_from : T (le nought (f32 0x40f49a78))
  pub ramp_turned : T (finite (neg ramp))
  pub rest_from : T (le zero32 (f32 0x404bcd9c))
  pub ramp_below : T (lt ramp (f32 0x40f49a78))
  pub mass_from : T (le nought mass)
  pub mass_finite : T (finite mass)
  pub mass_alone : add32 mass zero32 ≡ mass
  pub nil_finite : T (finite zero32)
  pub double_finite : T (finite (f32 0x3ec32e8c))
  pub double_from : T (le nought (f32 0x3ec32e8c))
  pub square_finite : T (finite (f32 0x3cb851ec))
  pub square_alone : add32 (f32 0x3cb851ec) nought ≡ f32 0x3cb851ec
  pub square_above : T (le lowest (f32 0x3cb851ec))
  pub probability_finite : T (finite low_probability)

pub looked : Looked
unfolding low ramp mass is_nan le lt eq neg add sum round size span climb units odd count_trailing_zeros count_leading_zeros of_bits of_fields
looked =
    record {
      min_halved = tt;
      half_finite = tt;
      half_from = tt;
      least_above = tt;
      least_itself = tt;
      low_turned = tt;
      span_from = tt;
      ramp_turned = tt;
      rest_from = tt;
      ramp_below = tt;
      mass_from = tt;
      mass_finite = tt;
      mass_alone = refl;
      nil_finite = tt;
      double_finite = tt;
      double_from = tt;
      square_finite = tt;
      square_alone = refl;
      square_above = tt;
      probability_finite = tt;
    }
