-- The clock's floats, by the sample count k: the phase lies from 0 to 1e9 + k * 3 / 512 and the offset within 1 + k * 3 / 2,048, which f64 holds exactly up to 2^40 samples.
-- A sample adds at most 32 / 8,000 to the phase, and moves the offset by at most a half of alpha; rounding to nearest does not pass a bound that the format holds.
use Prim.Native.Nat.{ℕ, zero, suc, ◌+◌, ◌*◌, ◌^◌, ◌≤◌, ◌<◌}
use native.Mathlib.Nat.{mul-pos, zero-mul}
use native.Mathlib.Omega.{arith}
use mathlib.Core.Path.{◌≡◌, refl, sym, subst}
use mathlib.Core.Bool.{Bool, true, false, cond}
use lib.IntN.{ℤ, pos, negsuc}
use lib.Dec.{T, lit≤, lit<, eqb, eqb-suc-zero}
use lib.Ieee.{Float, nan, inf, fin, binary64, of_bits, up, down, odd, units, size, span, climb, round, add, sub, div, neg, sum, le, lt, eq, fits, is_nan}
use lib.Ieee.Fits.{add-fits, down_pos}
use lib.Ieee.Bits.{of_bits-fits}
use lib.Ieee.Scale.{finite}
use Rattle.sequences.specs.Every.{in_case}
use Rattle.floats.specs.Names.{f64, add64, sub64, mul64, div64}
use Rattle.floats.specs.Remainder.{rem_euclid}
use Rattle.floats_laws.proofs.Rules.{finite_number, add_number, between-finite}
use Rattle.floats_laws.proofs.Rising.{nought, sub_rises}
use Rattle.floats_laws.proofs.Proportions.{from-round}
use Rattle.floats_laws.proofs.Mag.{Mag, Upto, mag_finite, mag_more, mag_le, le_upto}
use Rattle.floats_laws.proofs.Bounds.{add_mag, sub_mag}
use Rattle.floats_laws.proofs.Powers.{add_power}
use Rattle.floats_laws.proofs.Euclid.{euclid_within}
use Rattle.floats_laws.proofs.Again.{euclid_fits}
use Rattle.state.specs.declared.Clock.{Clock}
use Rattle.engine_samples.specs.Sample.{glided_of}
use Rattle.engine_changes.specs.Changes.{sought_phase}
use Rattle.engine_laws.proofs.Alpha.{one}
use Rattle.floats_laws.proofs.Fractions.{Under, Above, held, under-finite, under_more, under_mag, mag_under, add_under, mul_under, div_under}
use Rattle.floats_laws.proofs.Between.{under-between, under_most, under-least, sum-from_zero}
use Rattle.state.specs.State.{reference_now}

abbrev pub phase_most : ℕ → ℕ
phase_most k = 512000000000 + 3 * k

abbrev pub offset_most : ℕ → ℕ
offset_most k = 2048 + 3 * k

pub record Clocked (k : Clock) : Type 0 where
  pub phase_fits : T (fits binary64 k.phase)
  pub phase_least : T (le nought k.phase)
  pub phase_most_lem : Under k.phase (phase_most k.sample) 512
  pub offset_fits : T (fits binary64 k.phase_offset)
  pub offset_most_lem : Under k.phase_offset (offset_most k.sample) 2048

-- ---- the phase
pub step_small : (hz rate : Float) → Upto hz 32 → Above rate 8000 → Under (div64 hz rate) 3 512
step_small hz rate h a = div_under binary64 hz rate 32 1 8000 3 512 (lit< tt) (lit< tt) (lit< tt, lit≤ tt, held binary64 false 1065 9 3 refl (lit< tt)) (lit≤ tt) (whole hz h) a
  where
    whole : (x : Float) → Upto x 32 → Under x 32 1
    whole nan u = u
    whole (inf s) u = u
    whole (fin true m e) u = absurd u
    whole (fin false m e) u = omega arith

some : (n : ℕ) (d : ℤ) → 8000 * down d ≤ n * up d → 0 < n * up d
some n d h = omega (arith, down_pos d)

pub step-least : (hz rate : Float) → Upto hz 32 → Above rate 8000 → T (le nought (div64 hz rate))
unfolding div
step-least nan rate h a = absurd h
step-least (inf s) rate h a = absurd h
step-least (fin true m e) rate h a = absurd h
step-least (fin false m e) nan h a = absurd a
step-least (fin false m e) (inf t) h a = absurd a
step-least (fin false m e) (fin true n d) h a = absurd a
step-least (fin false m e) (fin false zero d) h a = absurd (omega (arith, some zero d a, zero-mul (up d)))
step-least (fin false m e) (fin false (suc n) d) h a =
    subst (λ (z : Bool). T (le nought (cond z (cond (eqb m 0) nan (inf false)) (round binary64 false (m * up e * down d) (suc n * up d * down e))))) (sym (eqb-suc-zero n))
    (from-round binary64 (m * up e * down d) (suc n * up d * down e) (mul-pos (some (suc n) d a) (down_pos e)))

next-phase : (phase step : Float) (k : ℕ) → k < 2 ^ 40 → Under phase (phase_most k) 512 → Under step 3 512 → Under (add64 phase step) (phase_most (k + 1)) 512
next-phase phase step k l p s =
    let more : phase_most k + 3 ≡ phase_most (k + 1) = omega arith in
    subst (λ (n : ℕ). Under (add64 phase step) n 512) more
    (add_under binary64 phase step (phase_most k) 3 512 (lit< tt, omega arith, held binary64 false 1065 9 (phase_most k + 3) refl (omega arith)) p s)

-- ---- the offset
abbrev half : Float
half = f64 0x3fe0000000000000

pub offset_mag : (x : Float) (k : ℕ) → k ≤ 2 ^ 40 → Under x (offset_most k) 2048 → Mag x (2 ^ 31)
offset_mag x k l h = under_mag x (2 ^ 31) 2048 (lit< tt) (under_more x (offset_most k) (2 ^ 31 * 2048) 2048 (omega arith) h)

pub phase_mag : (x : Float) (k : ℕ) → k ≤ 2 ^ 40 → Under x (phase_most k) 512 → Mag x (2 ^ 33)
phase_mag x k l h = under_mag x (2 ^ 33) 512 (lit< tt) (under_more x (phase_most k) (2 ^ 33 * 512) 512 (omega arith) h)

-- from 0 to 1, less a half
centred : (r : Float) → T (le nought r) → T (le r one) → Under (sub64 r half) 1 2
unfolding of_bits sub add neg sum round units odd size span climb is_nan
centred r h k =
    let u = between-finite binary64 nought r one tt tt h k in
    let n = add_number binary64 r (neg half) (finite_number binary64 r u) tt in
    under-between (sub64 r half) 1 (negsuc 0) (sub_rises binary64 nought r half h tt n) (sub_rises binary64 r one half k n tt)

module _ (offset phase alpha : Float) (k : ℕ) (l : k < 2 ^ 40) (p : T (le nought phase)) (q : T (le phase one)) (o : Under offset (offset_most k) 2048) (a : Under alpha 3 1024) where
  abbrev apart : Float
  apart = add64 (sub64 phase offset) half

  apart-finite : T (finite apart)
  unfolding of_bits
  apart-finite =
      let m : Mag phase 1 = le_upto phase one 1 p q (lit≤ tt) in
      let d = sub_mag binary64 phase offset 1 (2 ^ 31) (lit≤ tt) m (offset_mag offset k (omega arith) o) in
      mag_finite apart (1 + 2 ^ 31 + 1) (add_mag binary64 (sub64 phase offset) half (1 + 2 ^ 31) 1 (lit≤ tt) d (lit≤ tt))

  next-offset : Under (glided_of offset phase alpha) (offset_most (k + 1)) 2048
  unfolding glided_of of_bits lt
  next-offset =
      let r = euclid_within binary64 apart one (of_bits-fits binary64 0x3ff0000000000000) apart-finite tt tt in
      let difference = sub64 (rem_euclid binary64 apart one) half in
      let moved = mul_under binary64 difference alpha 1 2 3 1024 3 2048 (lit< tt) (lit< tt, lit≤ tt, held binary64 false 1063 11 3 refl (lit< tt)) (lit≤ tt) (centred (rem_euclid binary64 apart one) r.0 r.1) a in
      let more : offset_most k + 3 ≡ offset_most (k + 1) = omega arith in
      subst (λ (n : ℕ). Under (add64 offset (mul64 difference alpha)) n 2048) more
      (add_under binary64 offset (mul64 difference alpha) (offset_most k) 3 2048 (lit< tt, omega arith, held binary64 false 1063 11 (offset_most k + 3) refl (omega arith)) o moved)

-- ---- a sample
abbrev ticked : ℕ → Clock → Bool → Float → Float → Float → Clock
ticked later k scheduled step phase alpha =
    record {
      sample = later;
      phase = cond scheduled (add64 k.phase step) k.phase;
      phase_offset = glided_of k.phase_offset phase alpha;
    }

glided_fits : (offset phase alpha : Float) → T (fits binary64 (glided_of offset phase alpha))
unfolding glided_of
glided_fits offset phase alpha = add-fits binary64 offset _

-- the settings' rate at the engine's, the settings' phase, and the engine's alpha
pub clocked_ticked : (k : Clock) (later : ℕ) (scheduled : Bool) (hz rate phase alpha : Float) → Clocked k → k.sample < 2 ^ 40 → later ≡ k.sample + 1 → Upto hz 32 → Above rate 8000
    → T (le nought phase) → T (le phase one) → Under alpha 3 1024 → Clocked (ticked later k scheduled (div64 hz rate) phase alpha)
clocked_ticked k later scheduled hz rate phase alpha c l g h r p q a =
    let run = phase-run scheduled in
    record {
      phase_fits = run.0;
      phase_least = run.1;
      phase_most_lem = subst (λ (n : ℕ). Under (cond scheduled (add64 k.phase (div64 hz rate)) k.phase) (phase_most n) 512) (sym g) run.2;
      offset_fits = glided_fits k.phase_offset phase alpha;
      offset_most_lem = subst (λ (n : ℕ). Under (glided_of k.phase_offset phase alpha) (offset_most n) 2048) (sym g) (next-offset k.phase_offset phase alpha k.sample l p q c.offset_most_lem a);
    }
  where
    phase-run : (s : Bool) → T (fits binary64 (cond s (add64 k.phase (div64 hz rate)) k.phase)) × T (le nought (cond s (add64 k.phase (div64 hz rate)) k.phase)) × Under (cond s (add64 k.phase (div64 hz rate)) k.phase) (phase_most (k.sample + 1)) 512
    phase-run true = (
      add-fits binary64 k.phase (div64 hz rate),
      sum-from_zero binary64 k.phase (div64 hz rate) (under-finite k.phase _ 512 c.phase_most_lem) (under-finite (div64 hz rate) 3 512 (step_small hz rate h r)) c.phase_least (step-least hz rate h r),
      next-phase k.phase (div64 hz rate) k.sample l c.phase_most_lem (step_small hz rate h r),
    )
    phase-run false = (c.phase_fits, c.phase_least, under_more k.phase (phase_most k.sample) (phase_most (k.sample + 1)) 512 (omega arith) c.phase_most_lem)

-- ---- a seek, and settings before the first sample
zero_here : T (fits binary64 (f64 0)) × T (le nought (f64 0)) × Mag (f64 0) 1000000000
unfolding of_bits fits le lt eq
zero_here = (tt, tt, lit≤ tt)

pub sought_within : (cycles : Float) → T (fits binary64 cycles) → T (fits binary64 (sought_phase cycles)) × T (le nought (sought_phase cycles)) × Mag (sought_phase cycles) 1000000000
unfolding sought_phase of_bits lt
sought_within cycles f =
    let billion = f64 0x41cdcd6500000000 in
    in_case (λ (x : Float). T (fits binary64 x) × T (le nought x) × Mag x 1000000000) (finite cycles) _ _
    (λ q.
    let r = euclid_within binary64 cycles billion (of_bits-fits binary64 0x41cdcd6500000000) (subst T (sym q) tt) tt tt in
    (euclid_fits binary64 cycles billion f, r.0, le_upto (rem_euclid binary64 cycles billion) billion 1000000000 r.0 r.1 (lit≤ tt)))
    (λ q. zero_here)

-- an offset that is a phase of the settings
pub start-offset : (x : Float) (k : ℕ) → T (le nought x) → T (le x one) → Under x (offset_most k) 2048
unfolding of_bits
start-offset x k h l = under_more x 2048 (offset_most k) 2048 (omega arith) (mag_under x 1 2048 (le_upto x one 1 h l (lit≤ tt)))

pub start-phase : (x : Float) (k : ℕ) → Mag x 1000000000 → Under x (phase_most k) 512
start-phase x k m = under_more x 512000000000 (phase_most k) 512 (omega arith) (mag_under x 1000000000 512 m)

-- THE BOUNDS: the phase from 0 to 2^33, the offset from -2^31 to 2^31
module _ (k : Clock) (c : Clocked k) (l : k.sample ≤ 2 ^ 40) where
  pub phase-within : T (le (f64 0) k.phase) × T (le k.phase (f64 0x4200000000000000))
  unfolding of_bits
  phase-within = (c.phase_least, mag_le k.phase 1 (pos 33) (2 ^ 33) (lit< tt) (lit≤ tt) (phase_mag k.phase k.sample l c.phase_most_lem))

  pub offset-within : T (le (f64 0xc1e0000000000000) k.phase_offset) × T (le k.phase_offset (f64 0x41e0000000000000))
  unfolding of_bits
  offset-within =
      let x = k.phase_offset in
      let u = under_more x (offset_most k.sample) (2 ^ 31 * 2048) 2048 (omega arith) c.offset_most_lem in
      let m = under_mag x (2 ^ 31) 2048 (lit< tt) u in
      (under-least x 1 (pos 31) (lit< tt) (mag_under x (2 ^ 31) 1 m), under_most x 1 (pos 31) (lit< tt) (mag_under x (2 ^ 31) 1 m))

-- ---- what the streams and the Cloud are compared with: the phase and the offset
abbrev pub Reach : Float → Type 0
Reach x = T (fits binary64 x) × Mag x (2 ^ 34)

pub reference_reach : (k : Clock) → Clocked k → k.sample ≤ 2 ^ 40 → Reach (reference_now k)
reference_reach k c l = (
  add-fits binary64 k.phase k.phase_offset,
  add_power binary64 k.phase k.phase_offset 33 (lit≤ tt) (phase_mag k.phase k.sample l c.phase_most_lem)
      (mag_more k.phase_offset (2 ^ 31) (2 ^ 33) (lit≤ tt) (offset_mag k.phase_offset k.sample l c.offset_most_lem)),
)
