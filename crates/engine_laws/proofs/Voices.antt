-- What a birth sounds: a source that may be chosen, or a free voice, has a frequency above 0 and finite, and a strength from 0 to 1.
use Prim.Native.Nat.{ℕ}
use mathlib.Core.Path.{◌≡◌, refl, sym, ap, subst}
use mathlib.Core.Bool.{true, false}
use lib.Count.{count_trailing_zeros}
use lib.Dec.{T}
use lib.Ieee.{Float, binary32, binary64, add, mul, sum, round, size, span, climb, units, odd, lt, le, eq, is_nan, fits, of_bits, of_fields, to_bits, to_unsigned}
use lib.Ieee.Bits.{is_true}
use lib.Ieee.Fits.{mul-fits}
use lib.Ieee.Scale.{finite}
use Rattle.sequences.specs.Pick.{both}
use Rattle.floats.specs.Names.{f32, f64, mul32, div64}
use Rattle.floats.specs.Choose.{min}
use Rattle.floats.specs.Whole.{floor}
use Rattle.floats_laws.proofs.Choosing.{clamp-fits, clamp-least, clamp_most}
use Rattle.floats_laws.proofs.Products.{mul_rises-right}
use Rattle.floats_laws.proofs.Rising.{nought}
use Rattle.floats_laws.proofs.Rules.{between-finite, finite_number, lt→le}
use Rattle.floats_laws.proofs.Spans.{lt_le}
use Rattle.floats_laws.proofs.Proportions.{one_unit}
use Rattle.draws.specs.Draws.{random_of}
use Rattle.draws.proofs.Drawn.{random_in}
use Rattle.powers.specs.Placed.{edged, placed}
use Rattle.powers.specs.PowerCells.{power_starts, power_slopes, power_bends, power_start, power_slope, power_bend}
use Rattle.powers.specs.Power.{lifted, mantissa, power_bits, power, exp2, pow8}
use Rattle.elementary_laws.proofs.PowerRises.{pow8_like}
use Rattle.elementary_laws.proofs.PowerValues.{power-fits}
use Rattle.pitch.specs.Cloud.{frequency_of}
use Rattle.pitch_laws.proofs.Frequency.{rate-sounds}
use Rattle.pitch_laws.proofs.Tops.{highest_of}
use Rattle.settings.specs.declared.Shape.{Shape}
use Rattle.settings.specs.declared.Shape.TheVariants.{Sprinkle, Cloud}
use Rattle.settings.specs.Settings.{lawful_rate}
use Rattle.sources.specs.declared.Source.{Source}
use Rattle.sources.specs.Sources.{is_pitched, is_eligible}
use Rattle.births.specs.Voices.{free_root_of, free_hz_of, free_voice_of, source_voice_of}
use Rattle.frame_laws.proofs.Newborn.{Voiced}
use Rattle.floats_laws.proofs.Fitting.{own-convert}
use Rattle.floats_laws.proofs.Units.{one as i, one-fits, zero_fits}
use Rattle.pitch.specs.Highest.{max_hz_of}
use denote.Floats.{passes}

-- what a Source of the code always has: its floats are f32s
pub record FormedSource (s : Source) : Type 0 where
  pub hz : T (fits binary32 s.frequency_hz)
  pub strength : T (fits binary32 s.strength)

-- ---- with a source
pub pitched-sounds : (x : Float) → is_pitched x ≡ true → T (lt nought x) × T (finite x)
unfolding is_pitched of_bits
pitched-sounds x h = let b = both (finite x) (lt nought x) h in (passes (lt nought x) b.1, passes (finite x) b.0)

pub source_voiced : (slot : ℕ) (s : Source) → is_eligible s ≡ true → FormedSource s → Voiced (source_voice_of slot s)
unfolding is_eligible source_voice_of of_bits
source_voiced slot s h f =
    let b = both (is_pitched s.frequency_hz) (is_pitched s.strength) (both s.eligible _ h).1 in
    let hz = pitched-sounds s.frequency_hz b.0 in
    let n = finite_number binary32 s.strength (pitched-sounds s.strength b.1).1 in
    record {
      strength =
          record {
            held = clamp-fits binary32 s.strength nought i f.strength (zero_fits binary32 false) (one-fits binary32);
            least = clamp-least binary32 s.strength nought i f.strength (zero_fits binary32 false) (one-fits binary32) n one_unit.least;
            most = clamp_most binary32 s.strength nought i f.strength (zero_fits binary32 false) (one-fits binary32) n one_unit.least;
          };
      hz_fits = f.hz;
      hz_above = hz.0;
      hz_finite = hz.1;
    }

-- ---- without one
-- 8 to the 1 is 8, so the root of a phrase lies from 200 to 1,600 Hz
eight : pow8 i ≡ f32 0x41000000
unfolding pow8 power edged lifted power_bits placed mantissa power_start power_slope power_bend power_starts power_slopes power_bends add mul sum round size span climb units odd of_bits of_fields to_bits lt le eq is_nan count_trailing_zeros
eight = refl

ends : (mul32 (f32 0x43480000) i ≡ f32 0x43480000) × (mul32 (f32 0x43480000) (f32 0x41000000) ≡ f32 0x44c80000)
unfolding mul round size span climb units odd of_bits of_fields
ends = (refl, refl)

looked : T (finite (f32 0x43480000)) × T (le nought (f32 0x43480000)) × T (lt nought (f32 0x43480000)) × T (finite (f32 0x44c80000)) × T (finite (f32 0x41000000))
unfolding le lt eq of_bits of_fields odd
looked = (tt, tt, tt, tt, tt)

pub root_sounds : (phase : Float) → T (fits binary32 (free_root_of phase)) × T (lt nought (free_root_of phase)) × T (finite (free_root_of phase))
unfolding free_root_of
root_sounds phase =
    let low = f32 0x43480000 in
    let phrase = to_unsigned 64 (floor binary64 (div64 phase (f64 0x4008000000000000))) in
    let draw = random_of phrase 11 in
    let y = pow8 draw in
    let r = random_in phrase 11 in
    let a = subst (λ (z : Float). T (le z y)) pow8_like.at_zero (pow8_like.never_falls nought draw r.0) in
    let b = subst (λ (z : Float). T (le y z)) eight (pow8_like.never_falls draw i (lt→le draw i (is_true (lt draw i) r.1))) in
    let f = between-finite binary32 i y (f32 0x41000000) tt looked.4 a b in
    let u = subst (λ (z : Float). T (le z (mul32 low y))) ends.0 (mul_rises-right binary32 i y tt f low looked.0 looked.1 a) in
    let v = subst (λ (z : Float). T (le (mul32 low y) z)) ends.1 (mul_rises-right binary32 y (f32 0x41000000) f looked.4 low looked.0 looked.1 b) in
    let h = mul-fits binary32 low y in
    (h, lt_le nought low (mul32 low y) looked.2 u, between-finite binary32 low (mul32 low y) (f32 0x44c80000) looked.0 looked.3 u v)

top-is : (rate : Float) → T (fits binary32 rate) → highest_of rate ≡ max_hz_of rate
unfolding max_hz_of
top-is rate f = ap (λ (r : Float). min (mul32 r (f32 0x3f000000)) (f32 0x469c4000)) (sym (own-convert binary32 rate f))

cloud-fits : (index : ℕ) (maxHz : Float) → T (fits binary32 (frequency_of index maxHz))
unfolding frequency_of exp2
cloud-fits index maxHz = power-fits _ _

free-sounds : (shape : Shape) (index : ℕ) (phase rate : Float) → T (fits binary32 rate) → T (lawful_rate rate)
    → T (fits binary32 (free_hz_of shape index phase (max_hz_of rate))) × T (lt nought (free_hz_of shape index phase (max_hz_of rate))) × T (finite (free_hz_of shape index phase (max_hz_of rate)))
unfolding free_hz_of
free-sounds Sprinkle index phase rate f l = root_sounds phase
free-sounds Cloud index phase rate f l =
    let s = subst (λ (m : Float). T (lt nought (frequency_of index m)) × T (finite (frequency_of index m))) (top-is rate f) (rate-sounds index rate l) in
    (cloud-fits index (max_hz_of rate), s.0, s.1)

pub free_voiced : (shape : Shape) (index : ℕ) (phase rate : Float) → T (fits binary32 rate) → T (lawful_rate rate) → Voiced (free_voice_of shape index phase rate)
unfolding free_voice_of of_bits
free_voiced shape index phase rate f l =
    let s = free-sounds shape index phase rate f l in
    record { strength = one_unit; hz_fits = s.0; hz_above = s.1; hz_finite = s.2 }
