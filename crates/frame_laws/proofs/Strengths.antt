-- The amplitude of a particle such as a birth makes lies from 0 to 1, at any sample: each factor does.
use Prim.Native.Nat.{ℕ, ◌-◌, ◌*◌, ◌^◌, ◌<◌}
use native.Mathlib.Nat.{le_trans, le_of_eq, one-mul, mul-pos, mul-le-mul, zero-lt-suc}
use native.Mathlib.Omega.{arith}
use mathlib.Core.Bool.{true, false, not}
use lib.IntN.{pos}
use lib.Dec.{T, eqb, ltb→lt}
use lib.Pow.{pow_pos}
use lib.Ieee.{Float, nan, inf, fin, binary32, binary64, of_bits, of_int, up, down, round, add, sub, mul, div, neg, lt, fits, is_nan}
use lib.Ieee as Ieee
use lib.Ieee.Fits.{down_pos, mul-fits, sub-fits, div-fits}
use lib.Ieee.Order.{round_mono}
use lib.Ieee.Scale.{finite}
use borrow.Author.Tests.{le-ltb}
use Rattle.sequences.specs.Pick.{either}
use Rattle.floats.specs.Names.{f64}
use Rattle.floats.specs.Convert.{convert}
use Rattle.floats_laws.proofs.Casting.{convert_number}
use Rattle.floats.proofs.Rounded.{round_number}
use Rattle.floats_laws.proofs.Gap.{quotient_number, one_number}
use Rattle.floats_laws.proofs.Mag.{mag_finite, within}
use Rattle.floats_laws.proofs.Rising.{nought, not_above}
use Rattle.floats_laws.proofs.Spans.{lt_le}
use Rattle.floats.proofs.Values.{fine}
use Rattle.pool.specs.declared.Particle.{Particle}
use Rattle.std.specs.Prelude.{Option, Some, None}
use Rattle.windows.specs.Opening.{taper_of, cubic}
use Rattle.windows_laws.proofs.Tapered.{taper-finite, taper_most}
use Rattle.frame.specs.Freed.{elapsed_of, seconds_of, retirement_of}
use Rattle.frame.specs.Shown.{power_of, envelope_of, passed_of, fade_of, amplitude_of}
use Rattle.floats_laws.proofs.Proportions.{Proportion, product_unit}
use Rattle.floats_laws.proofs.Units.{one as i}

-- what the amplitude needs of a particle; a birth gives it
pub record Timed (p : Particle) : Type 0 where
  pub strength : Proportion p.strength
  pub attack_fits : T (fits binary32 p.attack)
  pub attack_above : T (lt nought p.attack)
  pub attack_below : T (lt p.attack i)
  pub lifetime_finite : T (finite p.lifetime)
  pub lifetime_above : T (lt nought p.lifetime)

-- and of the rate
pub record Rated (rate : Float) : Type 0 where
  pub rate_finite : T (finite rate)
  pub rate_above : T (lt nought rate)

taper_unit : (x : Float) → T (fits binary32 x) → T (not (is_nan x)) → Proportion (taper_of x)
unfolding taper_of cubic
taper_unit x p u = record { held = mul-fits binary32 _ _; least = (taper-finite x p u).1; most = taper_most x p u }

power_unit : (x : Float) (power : ℕ) → Proportion x → Proportion (power_of x power)
unfolding power_of
power_unit x power u = either Proportion (eqb power 3) (mul binary32 (mul binary32 x x) x) x (product_unit (product_unit u u) u) u

-- ---- 1 less what is below 1 is above 0, however near it is: it is 2^-149 at least
smallest : Float
smallest = round binary32 false 1 (2 ^ 149)

smallest_above : T (lt nought smallest)
unfolding smallest round Ieee.units Ieee.odd Ieee.size Ieee.span Ieee.climb lt
smallest_above = tt

left-above : (x : Float) → T (fits binary32 x) → T (lt nought x) → T (lt x i) → T (lt nought (sub binary32 i x)) × T (finite (sub binary32 i x))
unfolding lt sub add neg Ieee.sum smallest
left-above nan p g h = absurd g
left-above (inf true) p g h = absurd g
left-above (inf false) p g h = absurd h
left-above (fin true m e) p g h = absurd (not_above m e g)
left-above (fin false m e) p g h =
    let l : m * up e * 1 < 1 * 1 * down e = ltb→lt (m * up e * 1) (1 * 1 * down e) h in
    let n = 1 * 1 * down e - m * up e * 1 in
    let D : 0 < 1 * down e = mul-pos (zero-lt-suc 0) (down_pos e) in
    rw (le-ltb (1 * 1 * down e) (m * up e * 1) (omega arith)) (
      lt_le nought smallest (round binary32 false n (1 * down e)) smallest_above
          (round_mono binary32 1 (2 ^ 149) n (1 * down e) (pow_pos 149) D (mul-le-mul (omega arith) (le_trans (le_of_eq (one-mul (down e))) (fine binary32 false m e p).deep))),
      mag_finite (round binary32 false n (1 * down e)) 1 (within binary32 false n (1 * down e) 1 D (omega arith) (omega arith)),
    )

-- what lies strictly between two numbers is finite
attack-finite : (x : Float) → T (lt nought x) → T (lt x i) → T (finite x)
unfolding lt
attack-finite nan g h = g
attack-finite (inf true) g h = g
attack-finite (inf false) g h = h
attack-finite (fin s m e) g h = tt

module _ (rate : Float) (r : Rated rate) (sample : ℕ) where
  seconds-number : (since : ℕ) → T (not (is_nan (seconds_of since sample rate)))
  unfolding seconds_of of_int
  seconds-number since = quotient_number binary64 (of_int binary64 (pos (elapsed_of since sample))) rate (round_number binary64 false (elapsed_of since sample) 1) r.rate_finite r.rate_above

  retirement-number : (k : Option ℕ) → T (not (is_nan (retirement_of k sample rate)))
  unfolding retirement_of of_bits is_nan lt
  retirement-number None = tt
  retirement-number (Some since) = quotient_number binary64 (seconds_of since sample rate) (f64 0x3f947ae147ae147b) (seconds-number since) tt tt

  fade_unit : (p : Particle) → Proportion (fade_of sample rate p)
  unfolding fade_of of_bits
  fade_unit p =
      let x = convert binary32 (retirement_of p.retirement sample rate) in
      taper_unit (sub binary32 i x) (sub-fits binary32 i x) (one_number binary32 x (convert_number binary32 _ (retirement-number p.retirement)))

  module _ (p : Particle) (t : Timed p) where
    passed-number : T (not (is_nan (passed_of sample rate p)))
    unfolding passed_of
    passed-number = convert_number binary32 _ (quotient_number binary64 (seconds_of p.birth sample rate) p.lifetime (seconds-number p.birth) t.lifetime_finite t.lifetime_above)

    envelope_unit : Proportion (envelope_of (passed_of sample rate p) p.attack p.decay_power)
    unfolding envelope_of of_bits
    envelope_unit =
        let x = passed_of sample rate p in
        let a = p.attack in
        let l = left-above a t.attack_fits t.attack_above t.attack_below in
        either Proportion (lt x a) (taper_of (div binary32 x a)) (power_of (taper_of (div binary32 (sub binary32 i x) (sub binary32 i a))) p.decay_power)
        (taper_unit (div binary32 x a) (div-fits binary32 x a) (quotient_number binary32 x a passed-number (attack-finite a t.attack_above t.attack_below) t.attack_above))
        (power_unit (taper_of (div binary32 (sub binary32 i x) (sub binary32 i a))) p.decay_power
        (taper_unit (div binary32 (sub binary32 i x) (sub binary32 i a)) (div-fits binary32 (sub binary32 i x) (sub binary32 i a)) (quotient_number binary32 (sub binary32 i x) (sub binary32 i a) (one_number binary32 x passed-number) l.1 l.0)))

    pub amplitude_unit : Proportion (amplitude_of sample rate p)
    unfolding amplitude_of
    amplitude_unit = product_unit (product_unit t.strength envelope_unit) (fade_unit p)
