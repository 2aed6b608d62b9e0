-- The free Cloud's frequency, for an upper frequency from 4,000 to 20,000 Hz, is above 0 and finite. The lower end, the ramp and its mass are constants.
use Prim.Native.Nat.{ℕ}
use mathlib.Core.Path.{◌≡◌, subst}
use mathlib.Core.Bool.{true, false, not}
use lib.Count.{count_leading_zeros, count_trailing_zeros}
use lib.IntN.{pos, negsuc}
use lib.Dec.{T, lit≤, lit<}
use lib.Ieee.{Float, nan, inf, fin, binary32, binary64, fits, is_nan, lt, le, eq, round, sub, neg, of_int, of_bits, of_fields, size, span, climb, units, odd}
use lib.Ieee.Bits.{is_true, of_bits-fits}
use lib.Ieee.Fits.{add-fits, sub-fits}
use lib.Ieee.Scale.{finite}
use denote.Floats.{passes}
use Rattle.sequences.specs.Pick.{pick, by-case}
use Rattle.floats.specs.Names.{f32, add32, sub32, mul32, zero32, two}
use Rattle.floats_laws.proofs.Bounds.{add_mag, sub_mag, mul_mag, div_mag}
use Rattle.floats_laws.proofs.Mag.{Mag, Upto, Least, le_upto, least-up, mag_le, mag_finite, mag_more, upto_mag}
use Rattle.floats_laws.proofs.Products.{product-from_zero}
use Rattle.floats_laws.proofs.Rising.{nought, add_rises-right, neg_falls, sub_rises}
use Rattle.floats_laws.proofs.Rules.{add_number, between-finite, finite_number, le_left, le_right, le_trans, lt→le}
use Rattle.floats_laws.proofs.Spans.{lt_le}
use Rattle.draws.specs.Draws.{random_of}
use Rattle.draws.proofs.Drawn.{random_in}
use Rattle.elementary.specs.Log2.{log2_of}
use Rattle.powers.specs.Power.{exp2}
use Rattle.elementary.specs.Sqrt.{sqrt_of}
use Rattle.elementary_laws.proofs.LogRises.{log2-rises}
use Rattle.elementary_laws.proofs.PowerRises.{exp2_like}
use Rattle.elementary_laws.proofs.PowerValues.{exp2-exact, power-fits}
use Rattle.elementary_laws.proofs.RootRises.{lowest, lowest_root, highest_root, sqrt-fits, sqrt-window}
use Rattle.settings.specs.Settings.{lawful_rate}
use Rattle.pitch.specs.Register.{low_probability}
use Rattle.pitch.specs.Cloud.{in_ramp, offset_of, frequency_of}
use Rattle.pitch_laws.proofs.Ramp.{low, ramp, slope, mass, low-is, ramp-is, slope-is, mass-is, least_log, most_log, least-rest, square-is, double-is, least_divisor, looked}
use Rattle.pitch_laws.proofs.Tops.{least_hz, most_hz, highest_of, rate-top}

-- ---- the range, in octaves, for an upper frequency from 4,000 Hz on
module _ (maxHz : Float) (f : T (fits binary32 maxHz)) (a : T (le least_hz maxHz)) where
  abbrev pub octaves : Float
  octaves = sub32 (log2_of maxHz) low

  less-low : (x : Float) → T (not (is_nan x)) → T (not (is_nan (sub32 x low)))
  unfolding sub
  less-low x h = add_number binary32 x (neg low) h looked.low_turned

  pub octaves-from : T (le (f32 0x40f49a78) octaves)
  octaves-from =
      let h = log2-rises least_hz maxHz (of_bits-fits binary32 0x457a0000) f looked.least_above a in
      subst (λ (z : Float). T (le z octaves)) least_log (sub_rises binary32 (log2_of least_hz) (log2_of maxHz) low h (less-low (log2_of least_hz) (le_left (log2_of least_hz) (log2_of maxHz) h)) (less-low (log2_of maxHz) (le_right (log2_of least_hz) (log2_of maxHz) h)))

  hz_above : T (lt nought maxHz)
  unfolding fits
  hz_above = lt_le nought least_hz maxHz looked.least_above a

  abbrev rest : Float
  rest = sub32 octaves ramp

  less-ramp : (x : Float) → T (not (is_nan x)) → T (not (is_nan (sub32 x ramp)))
  unfolding sub
  less-ramp x u = add_number binary32 x (neg ramp) u looked.ramp_turned

  -- the range goes on past the ramp
  pub rest_from : T (le zero32 rest)
  rest_from =
      le_trans binary32 zero32 (f32 0x404bcd9c) rest (of_bits-fits binary32 0) (of_bits-fits binary32 0x404bcd9c) (sub-fits binary32 octaves ramp) looked.rest_from
      (subst (λ (z : Float). T (le z rest)) least-rest (sub_rises binary32 (f32 0x40f49a78) octaves ramp octaves-from (less-ramp (f32 0x40f49a78) (le_left (f32 0x40f49a78) octaves octaves-from)) (less-ramp octaves (le_right (f32 0x40f49a78) octaves octaves-from))))

  -- ---- the target, where the upper frequency is at most 20,000 Hz
  module _ (b : T (le maxHz most_hz)) where
    octaves-to : T (le octaves (f32 0x411f73da))
    octaves-to =
        let h = log2-rises maxHz most_hz f (of_bits-fits binary32 0x469c4000) hz_above b in
        subst (λ (z : Float). T (le octaves z)) most_log (sub_rises binary32 (log2_of maxHz) (log2_of most_hz) low h (less-low (log2_of maxHz) (le_left (log2_of maxHz) (log2_of most_hz) h)) (less-low (log2_of most_hz) (le_right (log2_of maxHz) (log2_of most_hz) h)))

    octaves_mag : Mag octaves 10
    unfolding fits of_bits of_fields odd
    octaves_mag =
        le_upto octaves (f32 0x411f73da) 10
        (le_trans binary32 nought (f32 0x40f49a78) octaves tt (of_bits-fits binary32 0x40f49a78) (sub-fits binary32 (log2_of maxHz) low) looked.span_from octaves-from) octaves-to (lit≤ tt)

    ramp_mag : Mag ramp 5
    unfolding ramp of_bits of_fields odd
    ramp_mag = lit≤ tt

    rest_mag : Mag rest 15
    rest_mag = sub_mag binary32 octaves ramp 10 5 (lit≤ tt) octaves_mag ramp_mag

    mass-upto : Upto mass 3
    unfolding mass of_bits of_fields odd
    mass-upto = lit≤ tt

    mass_mag : Mag mass 3
    mass_mag = upto_mag mass 3 mass-upto

    abbrev whole : Float
    whole = add32 mass rest

    whole_mag : Mag whole 18
    whole_mag = add_mag binary32 mass rest 3 15 (lit≤ tt) mass_mag rest_mag

    whole_from : T (le nought whole)
    unfolding fits mass
    whole_from =
        let n = finite_number binary32 mass looked.mass_finite in
        le_trans binary32 nought mass whole tt (of_bits-fits binary32 0x40241b6a) (add-fits binary32 mass rest) looked.mass_from
        (subst (λ (z : Float). T (le z whole)) looked.mass_alone (add_rises-right binary32 mass zero32 rest rest_from (add_number binary32 mass zero32 n looked.nil_finite) (add_number binary32 mass rest n (mag_finite rest 15 rest_mag))))

    module _ (index : ℕ) where
      abbrev draw : Float
      draw = random_of index 1

      draw_mag : Mag draw 1
      draw_mag = let r = random_in index 1 in le_upto draw (fin false 1 (pos 0)) 1 r.0 (lt→le draw (fin false 1 (pos 0)) (is_true (lt draw (fin false 1 (pos 0))) r.1)) (lit≤ tt)

      abbrev target : Float
      target = mul32 draw whole

      target_mag : Mag target 18
      target_mag = mul_mag binary32 draw whole 1 18 (lit≤ tt) draw_mag whole_mag

      target_from : T (le nought target)
      target_from = product-from_zero binary32 draw whole (mag_finite draw 1 draw_mag) (mag_finite whole 18 whole_mag) (random_in index 1).0 whole_from

      -- ---- the offset, within the ramp
      abbrev under : Float
      under = add32 (f32 0x3cb851ec) (mul32 (f32 0x3ec32e8c) target)

      risen_mag : Mag (mul32 (f32 0x3ec32e8c) target) 18
      unfolding of_bits of_fields odd
      risen_mag = mul_mag binary32 (f32 0x3ec32e8c) target 1 18 (lit≤ tt) (lit≤ tt) target_mag

      under_mag : Mag under 19
      unfolding of_bits of_fields odd
      under_mag = add_mag binary32 (f32 0x3cb851ec) (mul32 (f32 0x3ec32e8c) target) 1 18 (lit≤ tt) (lit≤ tt) risen_mag

      under-from : T (le lowest under)
      unfolding fits
      under-from =
          let n = finite_number binary32 (f32 0x3cb851ec) looked.square_finite in
          let t = mag_finite target 18 target_mag in
          let g = product-from_zero binary32 (f32 0x3ec32e8c) target looked.double_finite t looked.double_from target_from in
          le_trans binary32 lowest (f32 0x3cb851ec) under tt (of_bits-fits binary32 0x3cb851ec) (add-fits binary32 (f32 0x3cb851ec) (mul32 (f32 0x3ec32e8c) target)) looked.square_above
          (subst (λ (z : Float). T (le z under)) looked.square_alone
          (add_rises-right binary32 (f32 0x3cb851ec) nought (mul32 (f32 0x3ec32e8c) target) g (add_number binary32 (f32 0x3cb851ec) nought n tt) (add_number binary32 (f32 0x3cb851ec) (mul32 (f32 0x3ec32e8c) target) n (mag_finite (mul32 (f32 0x3ec32e8c) target) 18 risen_mag))))

      root_in : T (le lowest_root (sqrt_of under)) × T (le (sqrt_of under) highest_root)
      root_in = sqrt-window under (add-fits binary32 (f32 0x3cb851ec) (mul32 (f32 0x3ec32e8c) target)) under-from (mag_le under 9 (pos 2) 19 (lit< tt) (lit≤ tt) under_mag)

      root_fits : T (fits binary32 (sqrt_of under))
      root_fits = sqrt-fits under (add-fits binary32 (f32 0x3cb851ec) (mul32 (f32 0x3ec32e8c) target))

      root_mag : Mag (sqrt_of under) 6
      unfolding fits le lt eq
      root_mag = le_upto (sqrt_of under) highest_root 6 (le_trans binary32 nought lowest_root (sqrt_of under) tt tt root_fits tt root_in.0) root_in.1 (lit≤ tt)

      abbrev divisor : Float
      divisor = add32 low_probability (sqrt_of under)

      divisor_mag : Mag divisor 7
      unfolding of_bits of_fields odd
      divisor_mag = add_mag binary32 low_probability (sqrt_of under) 1 6 (lit≤ tt) (lit≤ tt) root_mag

      divisor_least : Least divisor 5
      unfolding of_bits of_fields odd
      divisor_least =
          let n = finite_number binary32 low_probability looked.probability_finite in
          least-up (f32 0x3e59999a) divisor 5 7
          (subst (λ (z : Float). T (le z divisor)) least_divisor
          (add_rises-right binary32 low_probability lowest_root (sqrt_of under) root_in.0 (add_number binary32 low_probability lowest_root n tt) (add_number binary32 low_probability (sqrt_of under) n (mag_finite (sqrt_of under) 6 root_mag))))
          (lit≤ tt) divisor_mag

      in_ramp_mag : T (le target mass) → Mag (in_ramp slope target) 30
      unfolding in_ramp of_bits of_fields odd
      in_ramp_mag h =
          rw (square-is, double-is)
          (div_mag binary32 (mul32 two target) divisor 6 5 (lit≤ tt) (mul_mag binary32 two target 2 3 (lit≤ tt) (lit≤ tt) (le_upto target mass 3 target_from h mass-upto)) divisor_least)

      offset_mag : Mag (offset_of slope ramp mass target) 30
      unfolding offset_of pick
      offset_mag =
          by-case (le target mass) (λ q. rw q (in_ramp_mag (passes _ q)))
          (λ q. rw q (mag_more (sub32 (add32 ramp target) mass) 26 30 (lit≤ tt) (sub_mag binary32 (add32 ramp target) mass 23 3 (lit≤ tt) (add_mag binary32 ramp target 5 18 (lit≤ tt) ramp_mag target_mag) mass_mag)))

      low_mag : Mag low 5
      unfolding low of_bits of_fields odd
      low_mag = lit≤ tt

      pitch_mag : Mag (add32 low (offset_of slope ramp mass target)) 35
      pitch_mag = add_mag binary32 low (offset_of slope ramp mass target) 5 30 (lit≤ tt) low_mag offset_mag

-- ---- 2^x for x from -35 to 35
from-minus : (x : Float) → T (fits binary32 x) → Mag x 35 → T (le (fin true 35 (pos 0)) x)
unfolding neg fits
from-minus nan f h = absurd h
from-minus (inf s) f h = absurd h
from-minus (fin true m e) f h = neg_falls binary32 (fin false m e) (fin false 35 (pos 0)) f tt (mag_le (fin false m e) 35 (pos 0) 35 (lit< tt) (lit≤ tt) h)
from-minus (fin false m e) f h = neg_falls binary32 (fin true m e) (fin false 35 (pos 0)) f tt (mag_le (fin true m e) 35 (pos 0) 35 (lit< tt) (lit≤ tt) h)

lowest-power : exp2 (fin true 35 (pos 0)) ≡ fin false 1 (negsuc 34)
unfolding of_int round size span climb units odd count_trailing_zeros count_leading_zeros
lowest-power = exp2-exact 114 (lit< tt)

highest-power : exp2 (fin false 35 (pos 0)) ≡ fin false 1 (pos 35)
unfolding of_int round size span climb units odd count_trailing_zeros count_leading_zeros
highest-power = exp2-exact 184 (lit< tt)

exp2-fits : (x : Float) → T (fits binary32 (exp2 x))
unfolding exp2
exp2-fits x = power-fits (of_bits binary64 0x3ff0000000000000) x

abbrev pub Sounds : Float → Type 0
Sounds x = T (lt nought x) × T (finite x)

power-sounds : (x : Float) → T (fits binary32 x) → Mag x 35 → Sounds (exp2 x)
unfolding fits lt
power-sounds x f h =
    let a = subst (λ (z : Float). T (le z (exp2 x))) lowest-power (exp2_like.never_falls (fin true 35 (pos 0)) x (from-minus x f h)) in
    let b = subst (λ (z : Float). T (le (exp2 x) z)) highest-power (exp2_like.never_falls x (fin false 35 (pos 0)) (mag_le x 35 (pos 0) 35 (lit< tt) (lit≤ tt) h)) in
    (lt_le nought (fin false 1 (negsuc 34)) (exp2 x) tt a, between-finite binary32 (fin false 1 (negsuc 34)) (exp2 x) (fin false 1 (pos 35)) tt tt a b)

-- ---- THE CLAIM
pub frequency-sounds : (index : ℕ) (maxHz : Float) → T (fits binary32 maxHz) → T (le least_hz maxHz) → T (le maxHz most_hz) → Sounds (frequency_of index maxHz)
unfolding frequency_of
frequency-sounds index maxHz f a b =
    rw (low-is, ramp-is, slope-is, mass-is)
    (power-sounds (add32 low (offset_of slope ramp mass (target maxHz f a b index))) (add-fits binary32 low (offset_of slope ramp mass (target maxHz f a b index))) (pitch_mag maxHz f a b index))

-- ---- for a lawful sample rate
pub rate-sounds : (index : ℕ) (rate : Float) → T (lawful_rate rate) → Sounds (frequency_of index (highest_of rate))
rate-sounds index rate h = let t = rate-top rate h in frequency-sounds index (highest_of rate) t.held t.from t.to
