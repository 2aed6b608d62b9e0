-- A window opens nothing outside its range: finite centre, positive finite radius, an amplitude above 0 and finite.
use Prim.Native.Nat.{ℕ, zero, suc, ◌+◌, ◌*◌, ◌^◌, ◌<◌}
use native.Mathlib.Nat.{mul-pos, mul-one, zero-mul, mul-zero, zero-lt-suc}
use native.Mathlib.Omega.{arith}
use mathlib.Core.Path.{◌≡◌, refl, sym, ap, ◌∙◌, subst}
use mathlib.Core.Bool.{Bool, true, false, not, cond, ◌&&◌}
use borrow.Author.Tests.{lt-ltb}
use lib.IntN.{ℤ, pos}
use lib.Dec.{T}
use lib.Ieee.{Float, nan, inf, fin, binary32, of_bits, up, down, round, add, sub, mul, div, neg, lt, le, eq, fits}
use lib.Ieee as Ieee
use lib.Ieee.Fits.{up_pos, down_pos, add-fits, sub-fits, div-fits, neg-fits}
use lib.Ieee.Scale.{finite, round_same}
use Rattle.sequences.specs.Pick.{by-case}
use Rattle.floats.specs.Choose.{clamp, abs}
use Rattle.floats.proofs.Values.{own-round, same_fin}
use Rattle.floats_laws.proofs.Ends.{not_le→lt}
use Rattle.floats_laws.proofs.Mono.{le→signed}
use Rattle.floats_laws.proofs.Rising.{nought, neg_falls, not_above, not_itself}
use Rattle.floats_laws.proofs.Rules.{neg_finite, add_number, finite_number}
use Rattle.floats_laws.proofs.Gap.{gap_below, gap-above, div_one, one_less}
use Rattle.floats_laws.proofs.Units.{one as i, zero_fits}
use Rattle.floats_laws.proofs.Proportions.{one-less-one}
use Rattle.windows.specs.declared.Window.{Window}
use Rattle.floats.specs.Names.{zero32, one}
use Rattle.windows.specs.Opening.{cubic, taper_of, inside_of, openness_of}
use Rattle.mask_gains.specs.Opened.{touches}

-- ---- at or below 0 the taper is 0
cubic_zero : (s : Bool) → cubic (fin s 0 (pos 0)) ≡ nought
unfolding cubic of_bits mul sub add neg Ieee.sum round Ieee.units Ieee.odd Ieee.size Ieee.span Ieee.climb
cubic_zero true = refl
cubic_zero false = refl

clamp-low : (y : Float) → lt y nought ≡ true → clamp y nought i ≡ nought
unfolding clamp lt
clamp-low y h = rw h refl

below_zero : (m : ℕ) (e : ℤ) → lt (fin true (suc m) e) nought ≡ true
unfolding lt
below_zero m e = lt-ltb 0 (suc m * up e * 1 + 0 * 2 ^ 0 * down e) (let p : 0 < suc m * up e = mul-pos (zero-lt-suc m) (up_pos e) in omega (arith, mul-one (suc m * up e)))

above_zero : (m : ℕ) (e : ℤ) → T (le (fin false (suc m) e) nought) → ⊥
above_zero m e h =
    let p : 0 < suc m * up e = mul-pos (zero-lt-suc m) (up_pos e) in
    omega (arith, le→signed false (suc m) e false 0 (pos 0) h, mul-one (suc m * up e), zero-mul (down e))

taper-at : (y : Float) → T (fits binary32 y) → T (le y nought) → cubic (clamp (clamp y nought i) nought i) ≡ nought
unfolding clamp le lt eq
taper-at nan p h = absurd h
taper-at (inf true) p h = cubic_zero false
taper-at (inf false) p h = absurd h
taper-at (fin s zero e) p h =
    ap (λ (y : Float). cubic (clamp (clamp y nought i) nought i)) (same_fin binary32 s 0 e 0 (pos 0) p (zero_fits binary32 s) (rw (zero-mul (up e), zero-mul (down e)))) ∙ flat s
  where
    flat : (s : Bool) → cubic (clamp (clamp (fin s 0 (pos 0)) nought i) nought i) ≡ nought
    flat true = cubic_zero true
    flat false = cubic_zero false
taper-at (fin true (suc m) e) p h = ap (λ (y : Float). cubic (clamp y nought i)) (clamp-low (fin true (suc m) e) (below_zero m e)) ∙ cubic_zero false
taper-at (fin false (suc m) e) p h = absurd (above_zero m e h)

-- ---- the size of a difference that lies outside
neg_neg : (s : Bool) (m : ℕ) (e : ℤ) → neg (neg (fin s m e)) ≡ fin s m e
unfolding neg
neg_neg true m e = refl
neg_neg false m e = refl

abs-below : (d r : Float) → T (fits binary32 d) → T (fits binary32 r) → T (finite r) → T (lt nought r) → T (le d (neg r)) → T (le r (abs d))
unfolding abs neg le lt eq
abs-below d nan p q u k h = absurd u
abs-below d (inf s) p q u k h = absurd u
abs-below d (fin true n g) p q u k h = absurd (not_above n g k)
abs-below d (fin false zero g) p q u k h = absurd (not_itself g k)
abs-below nan (fin false (suc n) g) p q u k h = absurd h
abs-below (inf true) (fin false (suc n) g) p q u k h = tt
abs-below (inf false) (fin false (suc n) g) p q u k h = absurd h
abs-below (fin true m e) (fin false (suc n) g) p q u k h =
    subst (λ (x : Float). T (le x (fin false m e))) (neg_neg false (suc n) g) (neg_falls binary32 (fin true m e) (fin true (suc n) g) p (neg-fits binary32 (fin false (suc n) g) q) h)
abs-below (fin false m e) (fin false (suc n) g) p q u k h =
    absurd (let w : 0 < suc n * up g = mul-pos (zero-lt-suc n) (up_pos g) in let v : 0 < suc n * up g * down e = mul-pos w (down_pos e) in omega (arith, le→signed false m e true (suc n) g h, zero-mul (down e), zero-mul (down g)))

abs-above : (d r : Float) → T (finite r) → T (lt nought r) → T (le r d) → T (le r (abs d))
unfolding abs le lt eq
abs-above d nan u k h = absurd u
abs-above d (inf s) u k h = absurd u
abs-above d (fin true n g) u k h = absurd (not_above n g k)
abs-above d (fin false zero g) u k h = absurd (not_itself g k)
abs-above nan (fin false (suc n) g) u k h = absurd h
abs-above (inf true) (fin false (suc n) g) u k h = absurd h
abs-above (inf false) (fin false (suc n) g) u k h = h
abs-above (fin false m e) (fin false (suc n) g) u k h = h
abs-above (fin true m e) (fin false (suc n) g) u k h =
    absurd (let w : 0 < suc n * up g = mul-pos (zero-lt-suc n) (up_pos g) in let v : 0 < suc n * up g * down e = mul-pos w (down_pos e) in omega (arith, le→signed false (suc n) g true m e h, zero-mul (down e), zero-mul (down g)))

-- ---- outside the range
zero_times : (a : Float) → T (finite a) → T (lt nought a) → mul binary32 a nought ≡ nought
unfolding mul
zero_times nan u k = absurd u
zero_times (inf s) u k = absurd u
zero_times (fin true n e) u k = absurd (not_above n e k)
zero_times (fin false n e) u k =
    round_same binary32 false (n * up e * (0 * 2 ^ 0)) (down e * 1) (0 * 2 ^ 0) 1 (mul-pos (down_pos e) (zero-lt-suc 0)) (zero-lt-suc 0) (rw (mul-zero (n * up e), zero-mul (down e * 1)))
    ∙ own-round binary32 false 0 (pos 0) (zero_fits binary32 false)

module _ (w : Window) (log : Float) (fr : T (fits binary32 w.radius_octaves)) (fl : T (fits binary32 log)) (uc : T (finite w.center_log2_hz)) (ur : T (finite w.radius_octaves)) (ul : T (finite log))
    (kr : T (lt nought w.radius_octaves)) where
  abbrev c : Float
  c = w.center_log2_hz

  abbrev r : Float
  r = w.radius_octaves

  outside : touches w log ≡ false → T (le r (abs (sub binary32 log c)))
  unfolding touches sub
  outside h =
      by-case (lt log (sub binary32 c r))
      (λ e.
      abs-below (sub binary32 log c) r (sub-fits binary32 log c) fr ur kr
      (gap_below binary32 log c (neg r) fl (neg-fits binary32 r fr) ul uc (neg_finite binary32 r ur) e))
      (λ e.
      abs-above (sub binary32 log c) r ur kr
      (gap-above binary32 log c r fl fr ul uc ur
      (not_le→lt binary32 log (add binary32 c r) fl (add-fits binary32 c r) (finite_number binary32 log ul) (add_number binary32 c r (finite_number binary32 c uc) ur) (sym (ap (λ (b : Bool). not b && le log (add binary32 c r)) e) ∙ h))))

  flat_inside : touches w log ≡ false → taper_of (clamp (inside_of w log) zero32 one) ≡ nought
  unfolding taper_of inside_of of_bits
  flat_inside h =
      let d = abs (sub binary32 log c) in
      let q = div binary32 d r in
      taper-at (sub binary32 i q) (sub-fits binary32 i q)
      (subst (λ (x : Float). T (le (sub binary32 i q) x)) one-less-one (one_less binary32 q (div-fits binary32 d r) (div_one binary32 d r ur kr (outside h))))

  pub shut : T (finite w.amplitude) → T (lt nought w.amplitude) → le r zero32 ≡ false → touches w log ≡ false → openness_of w log ≡ nought
  unfolding openness_of
  shut ua ka nr h =
      ap (λ (b : Bool). cond b zero32 (mul binary32 w.amplitude (taper_of (clamp (inside_of w log) zero32 one)))) nr
      ∙ ap (mul binary32 w.amplitude) (flat_inside h)
      ∙ zero_times w.amplitude ua ka
