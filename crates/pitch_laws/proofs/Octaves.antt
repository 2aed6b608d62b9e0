-- Sprinkle's octave for a root above 0 and finite, and an upper frequency from 4,000 Hz on: the range holds 7 or 8 octaves, and the octave is a whole number, at most 256 either way.
use Prim.Native.Nat.{ℕ, zero, suc, ◌+◌, ◌-◌, ◌≤◌}
use native.Mathlib.Omega.{arith}
use mathlib.Core.Path.{◌≡◌, refl, ◌∙◌, subst}
use mathlib.Core.Logic.{◌⊎◌, inl, inr}
use mathlib.Core.Bool.{Bool, true, false, cond}
use borrow.Author.Tests.{eqb-true, eqb-false}
use lib.Count.{count_leading_zeros, count_trailing_zeros}
use lib.IntN.{pos}
use lib.Dec.{T, eqb, lit≤}
use lib.Ieee.{Float, fin, binary32, is_nan, lt, le, eq, fits, to_bits, round, sum, add, sub, neg, mul, of_int, to_unsigned, of_bits, of_fields, size, span, climb, units, odd}
use lib.Ieee.Bits.{of_bits-fits}
use lib.Ieee.Fits.{add-fits}
use lib.Ieee.Exact.{HasValue}
use lib.Ieee.Scale.{finite}
use Rattle.sequences.specs.Pick.{by-case, either}
use Rattle.floats.specs.Names.{add32, sub32, zero32, one, as_float}
use Rattle.floats.specs.Whole.{floor}
use Rattle.floats_laws.proofs.Ends.{mag_between}
use Rattle.floats_laws.proofs.Mag.{Mag}
use Rattle.floats_laws.proofs.Rising.{nought}
use Rattle.floats_laws.proofs.Rules.{le_trans as float-trans}
use Rattle.elementary.specs.Rung.{rung_of, digits_of}
use Rattle.elementary.specs.LogCells.{log_tops, log_top, log_slopes, log_slope, log_bends, log_bend}
use Rattle.elementary.specs.Log2.{fall_of, cell_of, fraction_of, joined_of, log_of, log2_of}
use Rattle.floats_laws.proofs.Spans.{lt_le}
use Rattle.elementary_laws.proofs.LogExact.{log2-fits}
use Rattle.elementary_laws.proofs.LogRises.{least, most, log2-rises, log2-within}
use Rattle.pitch.specs.Register.{min_hz}
use Rattle.pitch.specs.Octave.{upward_of, last_octave, chosen_from, octave_chosen, first_octave, octaves_of, octave_drawn, octave_of, upper_of, register_of}
use Rattle.settings.specs.declared.Direction.{Direction}
use Rattle.pitch_laws.proofs.Harmonics.{one-is}
use Rattle.pitch.proofs.Logs.{log_of_min, log_of_top}
use Rattle.floats_laws.proofs.Wholes.{At, at_sum, at-difference, at-whole, at-word}
use Rattle.pitch_laws.proofs.Counts.{log_of20, log_of4000, log_of4186, Range, octaves_in_range}
use Rattle.pitch_laws.proofs.Tops.{least_hz, top_hz, upper_fits, upper_from, upper_to}
use Rattle.pitch_laws.proofs.Ramp.{looked}

-- ---- the logarithms of the ends, and the root's
log_of_20 : log2_of min_hz ≡ log_of20
unfolding of_bits of_fields odd
log_of_20 = log_of_min

log_of_4000 : log2_of least_hz ≡ log_of4000
unfolding log2_of log_of rung_of digits_of joined_of fraction_of cell_of fall_of log_top log_tops log_slope log_slopes log_bend log_bends is_nan lt eq sub add neg sum round size span climb units odd count_trailing_zeros count_leading_zeros of_int of_bits of_fields mul to_bits
log_of_4000 = refl

log_of_4186 : log2_of top_hz ≡ log_of4186
unfolding of_bits of_fields odd
log_of_4186 = log_of_top

pub root_log_lem : (x : Float) → T (fits binary32 x) → T (lt nought x) → T (finite x) → Mag (log2_of x) 149
unfolding neg fits
root_log_lem x f h k = let w = log2-within x f h k in mag_between binary32 least most (log2_of x) 149 tt (log2-fits x) w.from w.to (lit≤ tt) (lit≤ tt)

module _ (upper : Float) (f : T (fits binary32 upper)) (h : T (le least_hz upper)) (g : T (le upper top_hz)) where
  upper_log_from : T (le log_of4000 (log2_of upper))
  upper_log_from = subst (λ (z : Float). T (le z (log2_of upper))) log_of_4000 (log2-rises least_hz upper (of_bits-fits binary32 0x457a0000) f looked.least_above h)

  upper_log_to : T (le (log2_of upper) log_of4186)
  upper_log_to = subst (λ (z : Float). T (le (log2_of upper) z)) log_of_4186 (log2-rises upper top_hz f (of_bits-fits binary32 0x4582d014) (lt_le nought least_hz upper looked.least_above h) g)

  pub upper_log : Mag (log2_of upper) 13
  unfolding fits neg le lt eq
  upper_log = mag_between binary32 (fin true 1 (pos 0)) log_of4186 (log2_of upper) 13 tt (log2-fits upper) (float-trans binary32 (fin true 1 (pos 0)) log_of4000 (log2_of upper) tt tt (log2-fits upper) tt upper_log_from) upper_log_to (lit≤ tt) (lit≤ tt)

  -- the octaves of a root
  ranged : (rootHz : Float) → T (fits binary32 rootHz) → T (lt nought rootHz) → T (finite rootHz) → Range (log2_of rootHz) (log2_of upper)
  ranged rootHz p q r = octaves_in_range (log2_of rootHz) (log2_of upper) (root_log_lem rootHz p q r) upper_log upper_log_from upper_log_to

-- ---- the walk stays within the octaves
chosen_most : (weight : ℕ → Float) (last n i : ℕ) (t : Float) → i + n ≤ last + 1 → chosen_from weight last n i t ≤ last
unfolding chosen_from
chosen_most weight last zero i t h = omega arith
chosen_most weight last (suc n) i t h =
    either (λ (r : ℕ). r ≤ last) (lt (sub32 t (weight i)) zero32) i _ (omega arith) (chosen_most weight last n (suc i) (sub32 t (weight i)) (omega arith))

last-is : (n : ℕ) → n ≤ 4000 → last_octave (n + 1) ≡ n
unfolding last_octave
last-is n h = omega arith

-- ---- THE CLAIM
-- x is the whole number n, or -n, and at most b
pub record WholeUpto (b : ℕ) (x : Float) : Type 0 where
  pub sign : Bool
  pub n : ℕ
  pub is : HasValue x sign n 1
  pub most : n ≤ b

from_at : (x : Float) (k b : ℕ) → At x k → 1000 ≤ k + b → k ≤ 1000 + b → WholeUpto b x
from_at x k b p u v = record { sign = p.sign; n = p.n; is = p.is; most = most p.sign p.n p.place }
  where
    most : (s : Bool) (n : ℕ) → cond s (k + n ≡ 1000) (k ≡ 1000 + n) → n ≤ b
    most true n h = omega arith
    most false n h = omega arith

one_at : At one 1001
one_at = subst (λ (x : Float). At x 1001) one-is (at-whole 1 (lit≤ tt))

counted : (first last : Float) (j k : ℕ) → At first j → At last k → j ≤ k → k ≤ 1162 → to_unsigned 32 (add32 (sub32 last first) one) ≡ (k - j) + 1
counted first last j k p q l u =
    at-word (add32 (sub32 last first) one) ((k - j) + 1) (add-fits binary32 (sub32 last first) one) (omega arith) (omega arith)
    (subst (At (add32 (sub32 last first) one)) (omega arith)
    (at_sum (sub32 last first) one (k + 1000 - j) 1001 (at-difference last first k j q p (omega arith) (omega arith) (omega arith)) one_at (omega arith) (omega arith) (omega arith)))

stepped : (first : Float) (j k c : ℕ) → At first j → 846 ≤ j → c ≤ k - j → j ≤ k → k ≤ 1162 → WholeUpto 256 (add32 first (as_float c))
stepped first j k c p h l g u =
    from_at (add32 first (as_float c)) (j + (1000 + c) - 1000) 256 (at_sum first (as_float c) j (1000 + c) p (at-whole c (omega arith)) (omega arith) (omega arith) (omega arith)) (omega arith) (omega arith)

pub first_at : (rootLog t : Float) (w : Range rootLog t) → At (first_octave rootLog) w.first
unfolding first_octave
first_at rootLog t w = rw log_of_20 w.first_at

octaves-are : (rootLog upper : Float) (w : Range rootLog (log2_of upper)) → octaves_of rootLog (first_octave rootLog) upper ≡ (w.last - w.first) + 1
unfolding octaves_of
octaves-are rootLog upper w = counted (first_octave rootLog) (floor binary32 (sub32 (log2_of upper) rootLog)) w.first w.last (first_at rootLog (log2_of upper) w) w.last_at (omega (arith, w.least)) w.to

octave_of_lem : (index : ℕ) (rootLog upper : Float) (upward : Bool) → Range rootLog (log2_of upper) → WholeUpto 256 (octave_of index rootLog upper upward)
unfolding octave_of octave_drawn octave_chosen
octave_of_lem index rootLog upper upward w =
    let e = last-is (w.last - w.first) (omega (arith, w.to)) in
    stepped _ w.first w.last _ (first_at rootLog (log2_of upper) w) w.from
    (rw (octaves-are rootLog upper w, e) (chosen_most _ (w.last - w.first) ((w.last - w.first) + 1) 0 _ (omega arith))) (omega (arith, w.least)) w.to

abbrev pub SevenOrEight : ℕ → Type 0
SevenOrEight n = (n ≡ 7) ⊎ (n ≡ 8)

-- for a root above 0 and finite, and an upper frequency from 4,000 Hz on
module _ (rootHz maxHz : Float) (f : T (fits binary32 rootHz)) (h : T (lt nought rootHz)) (k : T (finite rootHz)) (g : T (fits binary32 maxHz)) (l : T (le least_hz maxHz)) where
  pub root_ranged : Range (log2_of rootHz) (log2_of (upper_of maxHz))
  root_ranged = ranged (upper_of maxHz) (upper_fits maxHz g l) (upper_from maxHz g l) (upper_to maxHz g l) rootHz f h k

  -- 7 octaves, or 8
  pub octaves-few : SevenOrEight (octaves_of (log2_of rootHz) (first_octave (log2_of rootHz)) (upper_of maxHz))
  octaves-few =
      let w = root_ranged in
      let e = octaves-are (log2_of rootHz) (upper_of maxHz) w in
      by-case (eqb (w.last - w.first) 6) (λ q. let z = eqb-true (w.last - w.first) 6 q in inl (e ∙ omega arith)) (λ q. let z = eqb-false (w.last - w.first) 6 q in inr (e ∙ omega (arith, w.least, w.most, z)))

  pub octave-whole : (index : ℕ) (direction : Direction) → WholeUpto 256 (register_of index rootHz maxHz direction).octave
  unfolding register_of
  octave-whole index direction = octave_of_lem index (log2_of rootHz) (upper_of maxHz) (upward_of direction index) root_ranged
