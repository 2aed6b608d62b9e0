-- The range walk and the full scan agree: where every window's numbers are finite, each bin from 1 on is as open as if every window were asked there. A radius may be 0 or less too, as that of a window not in use is.
use Prim.Native.Nat.{ℕ, suc, ◌≤◌, ◌<◌}
use mathlib.Core.Path.{◌≡◌, refl, sym, ap, ◌∙◌, subst}
use mathlib.Core.Bool.{Bool, true, false, not, cond, ◌&&◌}
use mathlib.Core.List.{List, [], ◌∷◌}
use borrow.Author.Tests.{lt-ltb}
use denote.Floats.{passes}
use lib.Dec.{T, ltb}
use lib.ListN.{length, get_or}
use lib.Ieee.{Float, nan, binary32, of_bits, neg, sub, mul, div, lt, le, eq, fits, is_nan}
use lib.Ieee.Bits.{is_false}
use lib.Ieee.Fits.{sub-fits, mul-fits, cond-fits}
use lib.Ieee.Scale.{finite}
use Rattle.sequences.specs.Every.{Every}
use Rattle.sequences.specs.Pick.{by-case}
use Rattle.sequences.specs.Walk.{walk}
use Rattle.floats.specs.Choose.{max, clamp, abs}
use Rattle.floats_laws.proofs.Choosing.{max-fits, clamp-fits, clamp_most}
use Rattle.floats_laws.proofs.Ends.{not_above, not_le→lt}
use Rattle.floats_laws.proofs.Gap.{quotient_number, one_number}
use Rattle.floats_laws.proofs.Products.{product-to_zero}
use Rattle.floats_laws.proofs.Rising.{nought}
use Rattle.floats_laws.proofs.Rules.{lt→le, le_left, le_right, le_trans, add_number, neg_finite, finite_number}
use Rattle.floats.proofs.Sign.{abs-number}
use Rattle.floats_laws.proofs.Units.{one as i, zero_fits, one-fits, unit}
use Rattle.windows.specs.declared.Window.{Window}
use Rattle.floats.specs.Names.{zero32, one}
use Rattle.windows.specs.Opening.{taper_of, inside_of, openness_of}
use Rattle.windows.specs.Attenuation.{opening, opened_by}
use Rattle.windows_laws.proofs.Tapered.{taper-finite}
use Rattle.mask_gains.specs.Opened.{touches, raised_of, raising, open_at}
use Rattle.mask_gains.specs.Logs.{lawful_logs}
use Rattle.mask_gains.proofs.Ordered.{all-finite}
use Rattle.mask_laws.specs.Finite.{Finite}
use Rattle.mask_laws.proofs.Shut.{shut}

z_below_z : T (le nought nought)
unfolding le lt eq
z_below_z = tt

-- ---- an openness that is not below 0
module _ (o v : Float) (p : T (fits binary32 o)) (q : T (fits binary32 v)) (h : T (le nought o)) where
  keeps : T (le nought (max o v))
  unfolding max
  keeps =
      rw (is_false (is_nan o) (le_right nought o h))
      (by-case (lt o v) (λ e. rw e (le_trans binary32 nought o v (zero_fits binary32 false) p q h (lt→le o v e))) (λ e. rw e h))

  stays : T (le v nought) → max o v ≡ o
  unfolding max
  stays g = rw (is_false (is_nan o) (le_right nought o h), not_above binary32 v o q p (le_trans binary32 v nought o q (zero_fits binary32 false) p g h)) refl

either_way : (b : Bool) (x o : Float) → x ≡ o → cond b x o ≡ x
either_way true x o e = refl
either_way false x o e = sym e

openness-fits : (w : Window) (log : Float) → T (fits binary32 (openness_of w log))
unfolding openness_of of_bits
openness-fits w log =
    cond-fits binary32 (le w.radius_octaves nought) nought (mul binary32 w.amplitude (taper_of (clamp (inside_of w log) zero32 one))) (zero_fits binary32 false)
    (mul-fits binary32 w.amplitude (taper_of (clamp (inside_of w log) zero32 one)))

-- ---- one window at one bin
module _ (w : Window) (log : Float) (F : Finite w) (fl : T (fits binary32 log)) (ul : T (finite log)) where
  abbrev c : Float
  c = w.center_log2_hz

  abbrev r : Float
  r = w.radius_octaves

  abbrev a : Float
  a = w.amplitude

  abbrev v : Float
  v = openness_of w log

  no_radius : le r zero32 ≡ true → v ≡ nought
  unfolding openness_of of_bits
  no_radius e = ap (λ (b : Bool). cond b nought (mul binary32 a (taper_of (clamp (inside_of w log) zero32 one)))) e

  above : (x : Float) → T (fits binary32 x) → T (finite x) → le x zero32 ≡ false → T (lt nought x)
  unfolding of_bits
  above x p u e = passes _ (not_le→lt binary32 x nought p (zero_fits binary32 false) (finite_number binary32 x u) (finite_number binary32 nought tt) e)

  inside-number : T (lt nought r) → T (not (is_nan (inside_of w log)))
  unfolding inside_of of_bits sub
  inside-number k =
      one_number binary32 (div binary32 (abs (sub binary32 log c)) r)
      (quotient_number binary32 (abs (sub binary32 log c)) r (abs-number (sub binary32 log c) (add_number binary32 log (neg c) (finite_number binary32 log ul) (neg_finite binary32 c F.centre))) F.radius k)

  inside-fits : T (fits binary32 (inside_of w log))
  unfolding inside_of
  inside-fits = sub-fits binary32 one (div binary32 (abs (sub binary32 log c)) r)

  tapered : T (lt nought r) → T (finite (taper_of (clamp (inside_of w log) zero32 one))) × T (le nought (taper_of (clamp (inside_of w log) zero32 one)))
  unfolding of_bits
  tapered k =
      let x = inside_of w log in
      taper-finite (clamp x nought i) (clamp-fits binary32 x nought i inside-fits (zero_fits binary32 false) (one-fits binary32))
      (le_left (clamp x nought i) i (clamp_most binary32 x nought i inside-fits (zero_fits binary32 false) (one-fits binary32) (inside-number k) unit))

  no_amplitude : le r zero32 ≡ false → T (le a nought) → T (le v nought)
  unfolding openness_of
  no_amplitude e h =
      let t = tapered (above r F.radius_fits F.radius e) in
      rw e (product-to_zero binary32 a (taper_of (clamp (inside_of w log) zero32 one)) F.amplitude t.0 h t.1)

  module _ (o : Float) (p : T (fits binary32 o)) (h : T (le nought o)) (bin : ℕ) (l : 1 ≤ bin) where
    level : T (le v nought) → raised_of bin log w o ≡ max o v
    unfolding raised_of
    level g = either_way (ltb 0 bin && (not (le a zero32) && touches w log)) (max o v) o (stays o v p (openness-fits w log) h g)

    level-at : v ≡ nought → raised_of bin log w o ≡ max o v
    level-at e = level (subst (λ (x : Float). T (le x nought)) (sym e) z_below_z)

    touched : le a zero32 ≡ false → touches w log ≡ true → raised_of bin log w o ≡ max o v
    unfolding raised_of
    touched e g = rw (lt-ltb 0 bin l, e, g) refl

    below : le a zero32 ≡ true → T (le a nought)
    unfolding of_bits
    below e = passes _ e

    agrees : raised_of bin log w o ≡ max o v
    agrees =
        by-case (le r zero32) (λ e. level-at (no_radius e))
        (λ e.
        by-case (le a zero32) (λ d. level (no_amplitude e (below d)))
        (λ d.
        by-case (touches w log) (λ g. touched d g)
        (λ g. level-at (shut w log F.radius_fits fl F.centre F.radius ul (above r F.radius_fits F.radius e) F.amplitude (above a F.amplitude_fits F.amplitude d) e g))))

-- ---- all windows at one bin
scan : (log : Float) (bin : ℕ) → T (fits binary32 log) → T (finite log) → 1 ≤ bin → (ws : List Window) → Every Finite ws → (j : ℕ) (o : Float) → T (fits binary32 o) → T (le nought o)
    → walk (raising bin log) j ws o ≡ walk (opening log) j ws o
unfolding walk
scan log bin fl ul l [] F j o p h = refl
scan log bin fl ul l (w ∷ ws) F j o p h =
    let v = openness_of w log in
    ap (walk (raising bin log) (suc j) ws) (agrees w log F.0 fl ul o p h bin l)
    ∙ scan log bin fl ul l ws F.1 (suc j) (max o v) (max-fits binary32 o v p (openness-fits w log)) (keeps o v p (openness-fits w log) h)

pub full-scan : (ws : List Window) → Every Finite ws → (logs : List Float) → ((k : ℕ) → T (fits binary32 (get_or logs k nan))) → lawful_logs logs ≡ true
    → (bin : ℕ) → 1 ≤ bin → bin < length logs → open_at ws logs bin ≡ opened_by ws (get_or logs bin nan)
unfolding open_at opened_by of_bits
full-scan ws F logs fit ok bin l h = scan (get_or logs bin nan) bin (fit bin) (all-finite logs fit ok bin l h) l ws F 0 nought (zero_fits binary32 false) z_below_z
