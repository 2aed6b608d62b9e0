-- The windows of a particle such as a birth makes: the centre is finite, the radius above 0, and finite where the bin's width is.
use Prim.Native.Nat.{ℕ, zero, suc, ◌-◌, ◌*◌, ◌^◌, ◌≤◌, ◌<◌}
use native.Mathlib.Nat.{le_trans, le_of_eq, mul-one, zero-mul, mul-pos, mul-le-mul_left, le_of_suc-le-suc, zero-lt-suc}
use native.Mathlib.Omega.{arith}
use mathlib.Core.Path.{◌≡◌, refl, sym, ap, subst}
use mathlib.Core.Bool.{true, false, not, cond}
use mathlib.Core.List.{List}
use lib.IntN.{ℤ, pos}
use lib.Dec.{T, lit≤, lt→ltb, eqb-suc-zero}
use lib.Ieee.{Float, nan, inf, fin, binary32, of_bits, to_bits, up, down, round, add, div, lt, le, eq, fits, is_nan}
use lib.Ieee as Ieee
use lib.Ieee.Order.{round_mono}
use lib.Ieee.Fits.{up_pos, add-fits, div-fits}
use lib.Ieee.Bits.{is_false, of_bits-to_bits}
use lib.Ieee.Scale.{finite}
use lib.ListN.{get_or}
use Rattle.sequences.specs.Pick.{by-case}
use Rattle.floats.specs.Choose.{max}
use Rattle.floats_laws.proofs.Bounds.{add_mag, chosen}
use Rattle.floats_laws.proofs.Choosing.{max-fits, max-right}
use Rattle.floats_laws.proofs.Gap.{quotient_number}
use Rattle.floats_laws.proofs.Mag.{Mag, le_of, mag_le}
use Rattle.floats_laws.proofs.Patterns.{bits_mono}
use Rattle.floats_laws.proofs.PositiveBits.{positive-under}
use Rattle.floats_laws.proofs.Rising.{le_refl as float-refl, nought, not_above, not_itself, add_rises-right, div_rises}
use Rattle.floats_laws.proofs.Rules.{finite_number, lt→le, add_number, between-finite, le_trans as float-trans}
use Rattle.floats_laws.proofs.Spans.{lt_le}
use Rattle.floats.proofs.Values.{own-round}
use Rattle.elementary.specs.Log2.{log2_of}
use Rattle.elementary_laws.proofs.LogRises.{log2-within}
use Rattle.pool.specs.declared.Particle.{Particle}
use Rattle.pitch_laws.proofs.Octaves.{root_log_lem}
use Rattle.floats.specs.Names.{zero32, one}
use Rattle.frame.specs.declared.places.Shown.{Shown}
use Rattle.frame.specs.Shown.{root_log_of}
use Rattle.frame.specs.Windows.{center_of, radius_of}
use Rattle.floats_laws.proofs.Proportions.{one_and_nothing, to_nought, from-round}
use Rattle.floats_laws.proofs.Units.{one as i, one-fits, zero_fits}

-- ---- the centre
-- what the windows need of a particle; a birth gives it
pub record Pitched (p : Particle) : Type 0 where
  pub hz_fits : T (fits binary32 p.frequency_hz)
  pub hz_above : T (lt nought p.frequency_hz)
  pub hz_finite : T (finite p.frequency_hz)
  pub octave : Mag p.octave 256
  pub width_fits : T (fits binary32 p.width)
  pub width_above : T (lt nought p.width)
  pub width_finite : T (finite p.width)

pub root_mag : (p : Particle) → Pitched p → Mag (root_log_of p) 405
unfolding root_log_of
root_mag p t = add_mag binary32 (log2_of p.frequency_hz) p.octave 149 256 (omega arith) (root_log_lem p.frequency_hz t.hz_fits t.hz_above t.hz_finite) t.octave

-- the logarithms of the harmonics, or any of that size
abbrev pub Logs : List Float → Type 0
Logs logs = (j : ℕ) → j < 24 → Mag (get_or logs j nan) 149

pub centre_mag : (logs : List Float) (s : Shown) (partial : ℕ) → Mag s.root_log 405 → Logs logs → 0 < partial → partial ≤ 24 → Mag (center_of logs s partial) 554
unfolding center_of
centre_mag logs s partial m l h g = add_mag binary32 s.root_log (get_or logs (partial - 1) nan) 405 149 (omega arith) m (l (partial - 1) (omega arith))

-- ---- the radius is never below the width
pub radius-above : (width bin_hz hz : Float) → T (fits binary32 width) → T (lt nought width) → T (not (is_nan width)) → T (lt nought (radius_of width bin_hz hz))
unfolding radius_of max fits
radius-above width bin_hz hz p h u =
    let l = log2_of (add binary32 one (div binary32 (max bin_hz zero32) (max hz one))) in
    rw (is_false (is_nan width) u) (by-case (lt width l) (λ e. rw e (lt_le nought width l h (lt→le width l e))) (λ e. rw e h))

-- ---- no finite number is above the largest one, and 1 more than that is rounded back to it
abbrev largest : Float
largest = fin false 16777215 (pos 104)

largest_is : of_bits binary32 0x7f7fffff ≡ largest
unfolding of_bits Ieee.of_fields Ieee.odd
largest_is = refl

one_more : add binary32 i largest ≡ largest
unfolding add Ieee.sum round Ieee.units Ieee.odd Ieee.size Ieee.span Ieee.climb
one_more = refl

largest_fits : T (fits binary32 largest)
unfolding fits
largest_fits = tt

at_most_largest : (x : Float) → T (fits binary32 x) → T (finite x) → T (le x largest)
unfolding le lt eq
at_most_largest nan p h = absurd h
at_most_largest (inf s) p h = absurd h
at_most_largest (fin true m e) p h = float-trans binary32 (fin true m e) nought largest p (zero_fits binary32 false) largest_fits (to_nought binary32 m e p) tt
at_most_largest (fin false zero e) p h = mag_le (fin false zero e) 16777215 (pos 104) 1 (zero-lt-suc 0) (lit≤ tt) (omega (arith, zero-mul (up e)))
at_most_largest (fin false (suc m) e) p h =
    let x = fin false (suc m) e in
    subst (λ (z : Float). T (le z largest)) (of_bits-to_bits binary32 x p)
    (subst (λ (z : Float). T (le (of_bits binary32 (to_bits binary32 x)) z)) largest_is
    (bits_mono binary32 (to_bits binary32 x) 0x7f7fffff (le_of_suc-le-suc (positive-under binary32 x p (lt→ltb 0 (suc m) (zero-lt-suc m)))) (lit≤ tt)))

-- ---- a quotient by 1 or more
by_large : (a x y : ℕ) → x ≤ y → a * x * 1 ≤ a * (y * 1)
by_large a x y h = le_trans (le_of_eq (mul-one (a * x))) (le_trans (mul-le-mul_left a h) (le_of_eq (ap (λ (z : ℕ). a * z) (sym (mul-one y)))))

nothing-by : (n : ℕ) (d : ℤ) → T (le nought (div binary32 nought (fin false (suc n) d)))
unfolding div
nothing-by n d = rw (eqb-suc-zero n) (from-round binary32 (0 * 1 * down d) (suc n * up d * 1) (mul-pos (mul-pos (zero-lt-suc n) (up_pos d)) (zero-lt-suc 0)))

largest_by : (n : ℕ) (d : ℤ) → down d ≤ suc n * up d → T (le (div binary32 largest (fin false (suc n) d)) largest)
unfolding div
largest_by n d h =
    rw (eqb-suc-zero n)
    (subst (λ (z : Float). T (le (round binary32 false (16777215 * 2 ^ 104 * down d) (suc n * up d * 1)) z)) (own-round binary32 false 16777215 (pos 104) largest_fits)
    (round_mono binary32 (16777215 * 2 ^ 104 * down d) (suc n * up d * 1) (16777215 * 2 ^ 104) 1 (mul-pos (mul-pos (zero-lt-suc n) (up_pos d)) (zero-lt-suc 0)) (zero-lt-suc 0) (by_large (16777215 * 2 ^ 104) (down d) (suc n * up d) h)))

quotient_in : (b z : Float) → T (fits binary32 b) → T (finite b) → T (le nought b) → T (le i z) → T (le nought (div binary32 b z)) × T (le (div binary32 b z) largest)
unfolding div lt le eq is_nan
quotient_in b nan p u h g = absurd g
quotient_in b (inf true) p u h g = absurd g
quotient_in nan (inf false) p u h g = absurd u
quotient_in (inf s) (inf false) p u h g = absurd u
quotient_in (fin true m e) (inf false) p u h g = (tt, tt)
quotient_in (fin false m e) (inf false) p u h g = (tt, tt)
quotient_in b (fin true n d) p u h g = absurd (not_above n d (lt_le nought i (fin true n d) tt g))
quotient_in b (fin false zero d) p u h g = absurd (not_itself d (lt_le nought i (fin false zero d) tt g))
quotient_in b (fin false (suc n) d) p u h g =
    let z = fin false (suc n) d in
    let a = lt_le nought i z tt g in
    let m = quotient_number binary32 b z (finite_number binary32 b u) tt a in (
      float-trans binary32 nought (div binary32 nought z) (div binary32 b z) (zero_fits binary32 false) (div-fits binary32 nought z) (div-fits binary32 b z) (nothing-by n d)
          (div_rises binary32 nought b z tt a h (quotient_number binary32 nought z tt tt a) m),
      float-trans binary32 (div binary32 b z) (div binary32 largest z) largest (div-fits binary32 b z) (div-fits binary32 largest z) largest_fits
          (div_rises binary32 b largest z tt a (at_most_largest b p u) m (quotient_number binary32 largest z tt tt a)) (largest_by n d (omega (arith, le_of (1 * 1 * down d) (suc n * up d * 1) g))),
    )

-- ---- and it is finite where the bin's width is
max-finite : (x y : Float) → T (finite x) → T (finite y) → T (finite (max x y))
unfolding max
max-finite x y p q = chosen (λ z. T (finite z)) (is_nan x) y (cond (lt x y) y x) q (chosen (λ z. T (finite z)) (lt x y) y x q p)

one_or_more : (hz : Float) → T (fits binary32 hz) → T (le i (max hz i))
unfolding max is_nan
one_or_more nan p = float-refl i tt
one_or_more (inf s) p = max-right binary32 (inf s) i p (one-fits binary32) tt tt
one_or_more (fin s m e) p = max-right binary32 (fin s m e) i p (one-fits binary32) tt tt

pub radius-finite : (width bin_hz hz : Float) → T (finite width) → T (fits binary32 bin_hz) → T (finite bin_hz) → T (fits binary32 hz) → T (finite (radius_of width bin_hz hz))
unfolding radius_of of_bits is_nan lt
radius-finite width bin_hz hz w p u q =
    let b = max bin_hz nought in
    let z = max hz i in
    let bin = div binary32 b z in
    let c = quotient_in b z (max-fits binary32 bin_hz nought p (zero_fits binary32 false)) (max-finite bin_hz nought u tt) (max-right binary32 bin_hz nought p (zero_fits binary32 false) (finite_number binary32 bin_hz u) tt) (one_or_more hz q) in
    let n = add_number binary32 i bin tt (between-finite binary32 nought bin largest tt tt c.0 c.1) in
    let low : T (le i (add binary32 i bin)) = subst (λ (x : Float). T (le x (add binary32 i bin))) one_and_nothing (add_rises-right binary32 i nought bin c.0 (add_number binary32 i nought tt tt) n) in
    let high : T (le (add binary32 i bin) largest) = subst (λ (x : Float). T (le (add binary32 i bin) x)) one_more (add_rises-right binary32 i bin largest c.1 n (add_number binary32 i largest tt tt)) in
    max-finite width (log2_of (add binary32 i bin)) w
    (log2-within (add binary32 i bin) (add-fits binary32 i bin) (lt_le nought i (add binary32 i bin) tt low) (between-finite binary32 i (add binary32 i bin) largest tt tt low high)).finite
