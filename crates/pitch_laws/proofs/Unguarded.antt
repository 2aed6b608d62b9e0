-- Where the highest frequency is 4,000 Hz or more, as at every lawful sample rate, the Rust's guards change nothing: with every guard (Guarded.antt) and without, the answers are the
-- same, Sprinkle's for every root. A root that is not above 0, or not finite, has no octave either way.
use Prim.Native.Nat.{ℕ, ◌<◌}
use native.Mathlib.Omega.{arith}
use mathlib.Core.Path.{◌≡◌, refl, sym, ap, ◌∙◌, subst}
use mathlib.Core.Logic.{◌⊎◌, inl, inr, ⊎_elim}
use mathlib.Core.Bool.{Bool, true, false, not}
use borrow.Author.Tests.{lt-ltb}
use lib.Count.{count_leading_zeros, count_trailing_zeros}
use lib.Dec.{T, ltb, lit<}
use lib.Ieee.{Float, nan, inf, fin, binary32, fits, is_nan, lt, le, eq, round, sum, add, sub, neg, mul, to_unsigned, of_bits, of_fields, size, span, climb, units, odd}
use lib.Ieee.Bits.{of_bits-fits}
use lib.Ieee.Fits.{mul-fits, sub-fits, neg-fits}
use lib.Ieee.Positive.{positive, positive-finite}
use lib.Ieee.Scale.{finite}
use Rattle.sequences.specs.Pick.{picked, by-case}
use Rattle.floats.proofs.Facts.{ne_self}
use Rattle.floats.specs.Names.{f32, add32, sub32, mul32, zero32, half, one, as_float}
use Rattle.floats.specs.Whole.{floor, ceil}
use Rattle.floats.proofs.Floored.{floor-fits, ceil-is}
use Rattle.floats.specs.Choose.{max, min}
use Rattle.floats_laws.proofs.Ends.{not_above, max-first, min-first, min-second}
use Rattle.floats_laws.proofs.Mag.{mag_finite}
use Rattle.floats_laws.proofs.Numbers.{positive_lt, mul_number}
use Rattle.floats_laws.proofs.Rising.{nought, mul_rises}
use Rattle.floats_laws.proofs.Rules.{le_right, le_trans, lt→le}
use Rattle.floats_laws.proofs.Spans.{lt_le}
use Rattle.floats_laws.proofs.Wholes.{At, at_not_below}
use Rattle.elementary.specs.Log2.{log2_of}
use Rattle.elementary.proofs.Tested.{past_tests}
use Rattle.settings.specs.declared.Direction.{Direction}
use Rattle.pitch.specs.Register.{min_hz}
use Rattle.pitch.proofs.Logs.{log_of_full}
use Rattle.pitch.specs.Octave.{upward_of, last_octave, span_of, first_octave, octaves_of, octave_drawn, octave_of, upper_of, register_of}
use Rattle.pitch.specs.Cloud.{ramp_of, frequency_of}
use Rattle.pitch_laws.specs.Guarded as guarded
use Rattle.pitch_laws.proofs.Counts.{Range}
use Rattle.pitch_laws.proofs.Frequency.{octaves, octaves-from, rest_from}
use Rattle.pitch_laws.proofs.Octaves.{SevenOrEight, first_at, octaves-few, root_ranged, upper_log}
use Rattle.pitch_laws.proofs.Ramp.{low, ramp, halved, low-is, ramp-is, looked}
use Rattle.pitch_laws.proofs.Tops.{least_hz, top_hz, upper_from, upper_to, upper_fits}

-- ---- the bottom: half of a frequency from 4,000 Hz on is above 20 Hz
half-number : (x : Float) → T (le least_hz x) → T (not (is_nan (mul32 x half)))
unfolding is_nan mul of_bits of_fields odd
half-number nan a = absurd (le_right least_hz nan a)
half-number (inf s) a = tt
half-number (fin s m e) a = mul_number binary32 (fin s m e) half tt tt

bottom : (x : Float) → T (le least_hz x) → min min_hz (mul32 x half) ≡ min_hz
bottom x a =
    let h =
    subst (λ (z : Float). T (le z (mul32 x half))) halved
    (mul_rises binary32 least_hz x half looked.half_finite looked.half_from a (half-number least_hz looked.least_itself) (half-number x a)) in
    let p = of_bits-fits binary32 0x41a00000 in
    min-first binary32 min_hz (mul32 x half) p (mul-fits binary32 x half) (le_trans binary32 min_hz (f32 0x44fa0000) (mul32 x half) p (of_bits-fits binary32 0x44fa0000) (mul-fits binary32 x half) looked.min_halved h)

-- ---- the free Cloud
guarded_ramp : guarded.ramp_of low ≡ ramp
unfolding low ramp guarded.ramp_of max is_nan lt sub add neg sum round size span climb units odd count_trailing_zeros count_leading_zeros of_bits of_fields
guarded_ramp = rw log_of_full

pub ramp-past-epsilon : T (lt guarded.epsilon (ramp_of (log2_of min_hz)))
unfolding ramp lt of_bits of_fields odd
ramp-past-epsilon = rw (low-is, ramp-is) tt

module _ (maxHz : Float) (f : T (fits binary32 maxHz)) (a : T (le least_hz maxHz)) where
  cloud_bottom : guarded.cloud_lower_of maxHz ≡ log2_of min_hz
  unfolding guarded.cloud_lower_of
  cloud_bottom = ap log2_of (bottom maxHz a)

  abbrev range : Float
  range = octaves maxHz f a

  ramp-short : T (lt ramp range)
  unfolding ramp
  ramp-short = lt_le ramp (f32 0x40f49a78) range looked.ramp_below (octaves-from maxHz f a)

  pub span-past-ramp : T (lt (ramp_of (log2_of min_hz)) (sub32 (log2_of maxHz) (log2_of min_hz)))
  span-past-ramp = rw (low-is, ramp-is) ramp-short

  end_is : min range ramp ≡ ramp
  end_is = min-second range ramp ramp-short

  rest-is : max (sub32 range ramp) zero32 ≡ sub32 range ramp
  rest-is = max-first binary32 (sub32 range ramp) zero32 (sub-fits binary32 range ramp) (of_bits-fits binary32 0) (rest_from maxHz f a)

  pub frequency-same : (index : ℕ) → guarded.frequency_of index maxHz ≡ frequency_of index maxHz
  unfolding guarded.frequency_of frequency_of
  frequency-same index = rw (cloud_bottom, low-is, guarded_ramp, ramp-is, end_is, rest-is)

-- ---- Sprinkle: the count of octaves
-- Of a root's logarithm and a top: the count is the same with its guard, and one less than it is above 1, so that the other guard says nothing.
record Idle (rootLog upper : Float) : Type 0 where
  count : guarded.octaves_of rootLog (first_octave rootLog) upper ≡ octaves_of rootLog (first_octave rootLog) upper
  steps : 1 < last_octave (octaves_of rootLog (first_octave rootLog) upper)

-- 7 octaves or 8
first_fits : (rootLog : Float) → T (fits binary32 (first_octave rootLog))
unfolding first_octave
first_fits rootLog =
    let x = sub32 (log2_of min_hz) rootLog in
    subst (λ (z : Float). T (fits binary32 z)) (ceil-is binary32 x) (neg-fits binary32 (floor binary32 (neg x)) (floor-fits binary32 (neg x)))

at-number : (x : Float) (k : ℕ) → At x k → is_nan x ≡ false
unfolding is_nan
at-number nan k p = absurd p.is
at-number (inf s) k p = refl
at-number (fin s m e) k p = refl

later : (x y : Float) (k j : ℕ) → T (fits binary32 x) → T (fits binary32 y) → At x k → At y j → j < k → max x y ≡ x
unfolding max
later x y k j f g p q h =
    rw (at-number x k p) (by-case (lt x y) (λ e. absurd (let l = at_not_below y x j k q p (not_above binary32 x y f g (lt→le x y e)) in omega arith)) (λ e. rw e))

past_one : (n : ℕ) → SevenOrEight n → 1 < last_octave n
unfolding last_octave
past_one n (inl e) = omega arith
past_one n (inr e) = omega arith

some : (rootLog upper : Float) → Range rootLog (log2_of upper) → SevenOrEight (octaves_of rootLog (first_octave rootLog) upper) → Idle rootLog upper
unfolding guarded.octaves_of octaves_of
some rootLog upper w n =
    record {
      count = rw (later (floor binary32 (sub32 (log2_of upper) rootLog)) (first_octave rootLog) w.last w.first (floor-fits binary32 (sub32 (log2_of upper) rootLog)) (first_fits rootLog) w.last_at (first_at rootLog (log2_of upper) w) (omega (arith, w.least)));
      steps = past_one _ n;
    }

-- no octave, where the root has no finite logarithm: both ends are infinite or NaN
none : (r t : Float) → T (not (finite r)) → T (finite t)
    → (max (floor binary32 (sub32 t r)) (ceil binary32 (sub32 low r)) ≡ floor binary32 (sub32 t r)) × (to_unsigned 32 (add32 (sub32 (floor binary32 (sub32 t r)) (ceil binary32 (sub32 low r))) one) ≡ 0)
unfolding low max is_nan lt add sub neg floor ceil to_unsigned of_bits of_fields odd
none r nan h k = absurd k
none r (inf s) h k = absurd k
none nan (fin s m e) h k = (refl, refl)
none (inf true) (fin s m e) h k = (refl, refl)
none (inf false) (fin s m e) h k = (refl, refl)
none (fin t n d) (fin s m e) h k = absurd h

none_idle : (rootLog upper : Float) → T (not (finite rootLog)) → T (finite (log2_of upper)) → Idle rootLog upper
unfolding guarded.octaves_of octaves_of first_octave last_octave
none_idle rootLog upper h k = let n = none rootLog (log2_of upper) h k in record { count = rw (low-is, n.0); steps = rw (low-is, n.1) (lit< tt) }

-- a root is above 0 and finite, or its logarithm is not finite
rooted : (x : Float) → T (positive x) ⊎ T (not (finite (log2_of x)))
unfolding log2_of
rooted x =
    by-case (is_nan x) (λ n. inr (rw n tt))
    (λ n.
    by-case (lt x nought) (λ a. inr (rw (n, a) tt))
    (λ a. by-case (eq x nought) (λ z. inr (rw (n, a, z) tt)) (λ z. by-case (eq x (inf false)) (λ i. inr (rw (n, a, z, i) tt)) (λ i. inl (past_tests x (ne_self x ∙ n) a z i)))))

-- ---- Sprinkle: the octave
span_same : (count : ℕ) → 1 < last_octave count → guarded.span_of count ≡ span_of count
unfolding guarded.span_of span_of
span_same count h = sym (picked (ltb 1 (last_octave count)) (as_float (last_octave count)) (as_float 1) (lt-ltb 1 (last_octave count) h))

drawn-same : (index : ℕ) (low : Float) (upward : Bool) (count : ℕ) → 1 < last_octave count → guarded.octave_drawn index low upward count ≡ octave_drawn index low upward count
unfolding guarded.octave_drawn octave_drawn
drawn-same index low upward count h = rw (span_same count h)

first-same : (rootLog : Float) → guarded.first_octave rootLog min_hz ≡ first_octave rootLog
unfolding guarded.first_octave first_octave
first-same rootLog = refl

one-least : T (le one least_hz)
unfolding le lt eq of_bits of_fields odd
one-least = tt

module _ (maxHz : Float) (g : T (fits binary32 maxHz)) (l : T (le least_hz maxHz)) where
  top-same : guarded.upper_of maxHz ≡ upper_of maxHz
  unfolding guarded.upper_of upper_of
  top-same =
      let p = of_bits-fits binary32 0x3f800000 in
      ap (min top_hz) (max-first binary32 maxHz one g p (le_trans binary32 one least_hz maxHz p (of_bits-fits binary32 0x457a0000) g one-least l))

  bottom_same : guarded.lower_of (upper_of maxHz) ≡ min_hz
  unfolding guarded.lower_of
  bottom_same = bottom (upper_of maxHz) (upper_from maxHz g l)

  upper_log_finite : T (finite (log2_of (upper_of maxHz)))
  upper_log_finite = mag_finite (log2_of (upper_of maxHz)) 13 (upper_log (upper_of maxHz) (upper_fits maxHz g l) (upper_from maxHz g l) (upper_to maxHz g l))

  idle : (rootHz : Float) → T (fits binary32 rootHz) → Idle (log2_of rootHz) (upper_of maxHz)
  idle rootHz f =
      ⊎_elim
      (λ r.
      let h = positive_lt rootHz r in
      let k = positive-finite rootHz r in
      some (log2_of rootHz) (upper_of maxHz) (root_ranged rootHz maxHz f h k g l) (octaves-few rootHz maxHz f h k g l))
      (λ n. none_idle (log2_of rootHz) (upper_of maxHz) n upper_log_finite) (rooted rootHz)

  pub register-same : (rootHz : Float) → T (fits binary32 rootHz) → (index : ℕ) (direction : Direction) → guarded.register_of index rootHz maxHz direction ≡ register_of index rootHz maxHz direction
  unfolding guarded.register_of register_of guarded.octave_of octave_of
  register-same rootHz f index direction =
      let r = log2_of rootHz in
      let w = idle rootHz f in
      rw (top-same, bottom_same, first-same r, w.count, drawn-same index _ (upward_of direction index) (octaves_of r (first_octave r) (upper_of maxHz)) w.steps)
