-- A table that `bin_table` fills passes refusal 6: its logs are finite, and none is less than the one before it.
use Prim.Native.Nat.{ℕ, zero, suc, ◌+◌, ◌-◌, ◌*◌, ◌^◌, ◌≤◌, ◌<◌}
use native.Mathlib.Nat.{mul_assoc, mul_right_comm, mul-one, one-mul, zero-mul, mul-pos, mul-le-mul_right, zero-lt-suc}
use native.Mathlib.Omega.{arith}
use mathlib.Core.Path.{◌≡◌, refl, sym, ap, ◌∙◌, subst}
use mathlib.Core.Bool.{Bool, true, false, not, cond, ◌&&◌, true≢false}
use borrow.Author.Tests.{lt-ltb, ltb-true, ltb-false, ne_eqb}
use denote.Floats.{passes}
use lib.IntN.{pos, negsuc}
use lib.Dec.{T, ltb, eqb, eqb-suc-zero}
use lib.ListN.{length, get_or}
use lib.Ieee.{Float, nan, inf, fin, binary32, of_bits, of_int, up, down, round, div, lt, le, fits}
use lib.Ieee as Ieee
use lib.Ieee.Back.{round_whole}
use lib.Ieee.Bits.{is_true}
use lib.Ieee.Exact.{HasValue}
use lib.Ieee.Fits.{and_l, and_r, and_i, up_pos, down_pos, mul-fits, div-fits}
use lib.Ieee.Order.{round_mono}
use lib.Ieee.Scale.{finite}
use Rattle.sequences.specs.All.{all, all_of}
use Rattle.sequences.specs.Pick.{passed, by-case}
use Rattle.sequences.specs.Table.{length_table, table_at}
use Rattle.elementary.specs.Log2.{log2_of}
use Rattle.elementary_laws.proofs.LogExact.{log2-fits}
use Rattle.elementary_laws.proofs.LogRises.{log2-within, log2-rises}
use Rattle.floats.specs.Names.{mul32, div32, zero32, as_float}
use Rattle.floats_laws.proofs.Bounds.{div_mag, of_upto}
use Rattle.floats_laws.proofs.Casting.{whole-rises}
use Rattle.floats_laws.proofs.Ends.{not_above}
use Rattle.floats_laws.proofs.Mag.{Mag, Upto, Least, mag_finite, mag_more, least_pos, least-up}
use Rattle.floats_laws.proofs.Mono.{le→signed}
use Rattle.floats_laws.proofs.Numbers.{mul_number}
use Rattle.floats_laws.proofs.Powers.{mul_power, of_power}
use Rattle.floats_laws.proofs.Rising.{nought, mul_rises}
use Rattle.floats_laws.proofs.Rules.{lt→le}
use Rattle.floats_laws.proofs.Spans.{least_above}
use Rattle.floats_laws.proofs.Through.{lt_le}
use Rattle.floats_laws.proofs.Units.{one as i, one-times}
use Rattle.settings.specs.Settings.{lawful_rate}
use Rattle.settings_laws.proofs.Rates.{rate_mag}
use Rattle.mask_gains.specs.Bins.{log_at, logs_of}
use Rattle.mask_gains.specs.Logs.{lawful_at, lawful_logs}

-- ---- a rate over a size
abbrev lowest : Float
lowest = fin false 125 (pos 6)

abbrev highest : Float
highest = fin false 375 (pos 10)

abbrev quarter : Float
quarter = fin false 1 (negsuc 1)

one_fourth : round binary32 false 1 4 ≡ quarter
unfolding round Ieee.units Ieee.odd Ieee.size Ieee.span Ieee.climb
one_fourth = refl

whole-least : (x : Float) (n : ℕ) → 1 ≤ n → HasValue x false n 1 → Least x 1
whole-least nan n h v = absurd v
whole-least (inf s) n h v = absurd v
whole-least (fin true m e) n h v = absurd (true≢false v.0)
whole-least (fin false m e) n h v = omega (arith, mul-le-mul_right (down e) h, v.1, mul-one (m * up e), one-mul (m * up e), one-mul (down e))

-- 8,000 / 16,384 is more than a quarter
below : (a b c d : ℕ) → 125 * 64 * b ≤ a → c ≤ 16384 * d → 1 * (c * b) ≤ a * d * 4
below a b c d h g =
    let p = mul-le-mul_right b g in
    let q = mul-le-mul_right d h in
    omega (arith, p, q, one-mul (c * b), mul_right_comm 16384 d b, mul_assoc 16384 b d, mul_assoc (125 * 64) b d)

quotient_least : (x y : Float) → T (finite x) → T (le lowest x) → Upto y 16384 → Least y 1 → Mag (div binary32 x y) 384000 → Least (div binary32 x y) 4
unfolding div
quotient_least nan y u h U L M = absurd u
quotient_least (inf s) y u h U L M = absurd u
quotient_least (fin s m e) nan u h U L M = absurd U
quotient_least (fin s m e) (inf t) u h U L M = absurd U
quotient_least (fin s m e) (fin true n d) u h U L M = absurd U
quotient_least (fin true m e) (fin false n d) u h U L M = absurd (let g = le→signed false 125 (pos 6) true m e h in let p = down_pos e in omega (arith, g, p, zero-mul 1))
quotient_least (fin false m e) (fin false zero d) u h U L M = absurd (let g = least_pos 1 (0 * up d) (down d) (down_pos d) L in omega (arith, g, zero-mul (up d)))
quotient_least (fin false m e) (fin false (suc n) d) u h U L M =
    let A = m * up e * down d in
    let B = suc n * up d * down e in
    let g : 125 * 64 * down e ≤ m * up e = omega (arith, le→signed false 125 (pos 6) false m e h, mul-one (m * up e)) in
    least-up quarter (div binary32 (fin false m e) (fin false (suc n) d)) 4 384000
    (subst (λ (b : Bool). T (le quarter (cond b (cond (eqb m 0) nan (inf false)) (round binary32 false A B)))) (sym (eqb-suc-zero n))
    (subst (λ (x : Float). T (le x (round binary32 false A B))) one_fourth (round_mono binary32 1 4 A B (zero-lt-suc 3) (mul-pos (mul-pos (zero-lt-suc n) (up_pos d)) (down_pos e)) (below (m * up e) (down e) (suc n * up d) (down d) g U))))
    (omega arith) M

size-value : (n : ℕ) → n ≤ 2 ^ 24 → HasValue (as_float n) false n 1
unfolding of_int
size-value n h = round_whole binary32 false n h

one-is : as_float 1 ≡ i
unfolding of_int round Ieee.units Ieee.odd Ieee.size Ieee.span Ieee.climb
one-is = refl

-- ---- the frequencies of the bins, and their logs
module _ (rate : Float) (fr : T (fits binary32 rate)) (ok : lawful_rate rate ≡ true) (size : ℕ) (some : 1 ≤ size) (most : size ≤ 16384) where
  abbrev hz : Float
  hz = div32 rate (as_float size)

  abbrev at : ℕ → Float
  at bin = mul32 (as_float bin) hz

  lawful : T (finite rate && (le lowest rate && le rate highest))
  unfolding lawful_rate of_bits
  lawful = passes _ ok

  rate_finite : T (finite rate)
  rate_finite = and_l (finite rate) (le lowest rate && le rate highest) lawful

  rate-from : T (le lowest rate)
  rate-from = and_l (le lowest rate) (le rate highest) (and_r (finite rate) (le lowest rate && le rate highest) lawful)

  size-least : Least (as_float size) 1
  size-least = whole-least (as_float size) size some (size-value size (omega arith))

  hz_mag : Mag hz 384000
  hz_mag = div_mag binary32 rate (as_float size) 384000 1 (omega arith) (rate_mag rate fr (passes _ ok)) size-least

  hz_finite : T (finite hz)
  hz_finite = mag_finite hz 384000 hz_mag

  hz_above : T (lt nought hz)
  hz_above = least_above hz 4 (quotient_least rate (as_float size) rate_finite rate-from (of_upto binary32 size 16384 (omega arith) most) size-least hz_mag)

  bin_finite : (bin : ℕ) → bin ≤ 2 ^ 14 → T (finite (as_float bin)) × T (finite (at bin))
  bin_finite bin h =
      let p = of_power binary32 bin 14 (omega arith) h in
      (mag_finite (as_float bin) (2 ^ 14) p, mag_finite (at bin) (2 ^ 33) (mul_power binary32 (as_float bin) hz 14 19 (omega arith) p (mag_more hz 384000 (2 ^ 19) (omega arith) hz_mag)))

  bins_rise : (j k : ℕ) → j ≤ k → k ≤ 2 ^ 14 → T (le (at j) (at k))
  bins_rise j k h l =
      let a = (bin_finite j (omega arith)).0 in
      let b = (bin_finite k l).0 in
      mul_rises binary32 (as_float j) (as_float k) hz hz_finite (lt→le nought hz (is_true (lt nought hz) hz_above)) (whole-rises binary32 j k h) (mul_number binary32 (as_float j) hz a hz_finite) (mul_number binary32 (as_float k) hz b hz_finite)

  bin_above : (bin : ℕ) → 1 ≤ bin → bin ≤ 2 ^ 14 → T (lt nought (at bin))
  bin_above bin h l = passes _ (lt_le nought hz (at bin) (is_true (lt nought hz) hz_above) (subst (λ (x : Float). T (le x (at bin))) first-is (bins_rise 1 bin h l)))
    where
      first-is : at 1 ≡ hz
      first-is = ap (λ (x : Float). mul32 x hz) one-is ∙ one-times binary32 hz (div-fits binary32 rate (as_float size))

  at-fits : (bin : ℕ) → T (fits binary32 (at bin))
  at-fits bin = mul-fits binary32 (as_float bin) hz

  log_finite : (bin : ℕ) → 1 ≤ bin → bin ≤ 2 ^ 14 → T (finite (log2_of (at bin)))
  log_finite bin h l = (log2-within (at bin) (at-fits bin) (bin_above bin h l) (bin_finite bin l).1).finite

  logs_rise : (bin : ℕ) → 2 ≤ bin → bin ≤ 2 ^ 14 → lt (log2_of (at bin)) (log2_of (at (bin - 1))) ≡ false
  logs_rise bin h l =
      not_above binary32 (log2_of (at (bin - 1))) (log2_of (at bin)) (log2-fits (at (bin - 1))) (log2-fits (at bin))
      (log2-rises (at (bin - 1)) (at bin) (at-fits (bin - 1)) (at-fits bin) (bin_above (bin - 1) (omega arith) (omega arith)) (bins_rise (bin - 1) bin (omega arith) l))

  module _ (n : ℕ) (few : n ≤ 2 ^ 14 + 1) where
    log_is : (bin : ℕ) → 1 ≤ bin → bin < n → get_or (logs_of hz n) bin nan ≡ log2_of (at bin)
    unfolding logs_of log_at
    log_is bin h l = table_at n (log_at hz) bin nan l ∙ sym (passed (eqb bin 0) zero32 (log2_of (at bin)) (ne_eqb bin 0 (λ e. omega arith)))

    each : (bin : ℕ) → bin < n → T (lawful_at (logs_of hz n) bin)
    unfolding lawful_at
    each bin l =
        by-case (ltb bin 1) (λ e. rw (e, lt-ltb bin 2 (let g = ltb-true bin 1 e in omega arith)) tt)
        (λ e.
        let g : 1 ≤ bin = ltb-false bin 1 e in
        let a : T (finite (get_or (logs_of hz n) bin nan)) = rw (log_is bin g l) (log_finite bin g (omega arith)) in
        by-case (ltb bin 2) (λ d. rw (e, d) (and_i (finite (get_or (logs_of hz n) bin nan)) true a tt))
        (λ d.
        let k : 2 ≤ bin = ltb-false bin 2 d in
        rw (e, d) (and_i (finite (get_or (logs_of hz n) bin nan)) (not (lt (get_or (logs_of hz n) bin nan) (get_or (logs_of hz n) (bin - 1) nan))) a
        (rw (log_is bin g l, log_is (bin - 1) (omega arith) (omega arith), logs_rise bin k (omega arith)) tt))))

    long : length (logs_of hz n) ≡ n
    unfolding logs_of
    long = length_table n (log_at hz)

    pub prepared-lawful : lawful_logs (logs_of hz n) ≡ true
    unfolding lawful_logs
    prepared-lawful =
        ap (all (lawful_at (logs_of hz n))) long ∙ is_true (all (lawful_at (logs_of hz n)) n) (all_of (lawful_at (logs_of hz n)) n each)
