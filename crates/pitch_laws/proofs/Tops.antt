-- The highest frequency at a lawful sample rate, half of it or 20,000 Hz where that is less: from 4,000 to 20,000 Hz. So Sprinkle's top is from 4,000 to 4186.01 Hz, well above 40 Hz.
use mathlib.Core.Path.{◌≡◌, refl, subst}
use mathlib.Core.Bool.{not}
use lib.Count.{count_leading_zeros, count_trailing_zeros}
use lib.Dec.{T}
use lib.Ieee.{Float, binary32, fits, mul, is_nan, lt, le, eq, round, of_bits, of_fields, size, span, climb, units, odd}
use lib.Ieee.Bits.{of_bits-fits}
use lib.Ieee.Fits.{and_l, and_r, mul-fits}
use lib.Ieee.Scale.{finite}
use Rattle.floats.specs.Names.{f32, mul32, half}
use Rattle.floats.specs.Choose.{min}
use Rattle.floats_laws.proofs.Choosing.{min-fits, min-left, min-right}
use Rattle.floats_laws.proofs.Ends.{of_min}
use Rattle.floats_laws.proofs.Numbers.{mul_number}
use Rattle.floats_laws.proofs.Rising.{nought, mul_rises}
use Rattle.floats_laws.proofs.Rules.{le_right, le_trans}
use Rattle.settings.specs.Settings.{lawful_rate}
use Rattle.pitch.specs.Octave.{upper_of}

-- 4,000 and 20,000 Hz
abbrev pub least_hz : Float
least_hz = f32 0x457a0000

abbrev pub most_hz : Float
most_hz = f32 0x469c4000

-- a float of the format from 4,000 to 20,000 Hz
pub record Top (maxHz : Float) : Type 0 where
  pub held : T (fits binary32 maxHz)
  pub from : T (le least_hz maxHz)
  pub to : T (le maxHz most_hz)

-- ---- for a lawful sample rate
abbrev pub highest_of : Float → Float
highest_of rate = min (mul32 rate half) most_hz

rate_halved : mul32 (f32 0x45fa0000) half ≡ least_hz
unfolding mul round size span climb units odd count_trailing_zeros count_leading_zeros of_bits of_fields
rate_halved = refl

ends : T (le least_hz most_hz) × T (finite (f32 0x45fa0000)) × T (finite half) × T (le nought half)
unfolding le lt eq of_bits of_fields odd
ends = (tt, tt, tt, tt)

pub rate-top : (rate : Float) → T (lawful_rate rate) → Top (highest_of rate)
unfolding lawful_rate
rate-top rate h =
    let u = and_l (finite rate) _ h in
    let a = and_l (le (f32 0x45fa0000) rate) _ (and_r (finite rate) _ h) in
    let v = ends.2 in
    let g =
    subst (λ (z : Float). T (le z (mul32 rate half))) rate_halved
    (mul_rises binary32 (f32 0x45fa0000) rate half v ends.3 a (mul_number binary32 (f32 0x45fa0000) half ends.1 v) (mul_number binary32 rate half u v)) in
    let p = mul-fits binary32 rate half in
    let q = of_bits-fits binary32 0x469c4000 in
    record {
      held = min-fits binary32 (mul32 rate half) most_hz p q;
      from = of_min (λ z. T (le least_hz z)) (mul32 rate half) most_hz g ends.0;
      to = min-right binary32 (mul32 rate half) most_hz p q (mul_number binary32 rate half u v) (le_right least_hz most_hz ends.0);
    }

-- ---- Sprinkle's top
abbrev pub top_hz : Float
top_hz = f32 0x4582d014

looked : T (le least_hz top_hz) × T (not (is_nan top_hz)) × T (le (f32 0x42200000) least_hz)
unfolding le lt eq is_nan of_bits of_fields odd
looked = (tt, tt, tt)

module _ (maxHz : Float) (f : T (fits binary32 maxHz)) (h : T (le least_hz maxHz)) where
  pub upper_fits : T (fits binary32 (upper_of maxHz))
  unfolding upper_of
  upper_fits = min-fits binary32 top_hz maxHz (of_bits-fits binary32 0x4582d014) f

  pub upper_from : T (le least_hz (upper_of maxHz))
  unfolding upper_of
  upper_from = of_min (λ z. T (le least_hz z)) top_hz maxHz looked.0 h

  pub upper_to : T (le (upper_of maxHz) top_hz)
  unfolding upper_of
  upper_to = min-left binary32 top_hz maxHz (of_bits-fits binary32 0x4582d014) f looked.1 (le_right least_hz maxHz h)

  -- at least 40 Hz, so that half of it is at least 20
  pub upper_past_40 : T (le (f32 0x42200000) (upper_of maxHz))
  upper_past_40 = le_trans binary32 (f32 0x42200000) least_hz (upper_of maxHz) (of_bits-fits binary32 0x42200000) (of_bits-fits binary32 0x457a0000) upper_fits looked.2 upper_from
