-- Bounds of Sprinkle's stages and of the hop's floor: each at most 5 seconds, and a stage at least 1 / 500.
use Prim.Native.Nat.{ℕ, ◌*◌, ◌^◌, ◌≤◌, ◌<◌}
use native.Mathlib.Nat.{le_trans, le_of_eq, mul_comm, mul_assoc, mul-pos, zero-mul, mul-le-mul_right}
use native.Mathlib.Omega.{arith}
use mathlib.Core.Path.{◌≡◌, refl, sym, ap, ◌∙◌}
use mathlib.Core.Bool.{Bool, true, false}
use lib.IntN.{pos}
use lib.Dec.{T, eqb, eqb→eq, lit≤}
use lib.Pow.{pow_pos}
use lib.Ieee.{Float, nan, inf, fin, binary32, up, down, of_bits, of_int, mul, div, round, unlike}
use lib.Ieee.Fits.{down_pos}
use lib.Ieee.Exact.{HasValue}
use denote.Floats.{passes}
use Rattle.sequences.specs.Pick.{by-case}
use Rattle.floats.specs.Names.{mul32, div32, sub32, two}
use Rattle.floats.specs.Choose.{max}
use Rattle.floats_laws.proofs.Mag.{Mag, Upto, Least, round_mag, round-upto}
use Rattle.floats_laws.proofs.Bounds.{max_mag, mul_upto, of_upto, apart_mag}
use Rattle.floats_laws.proofs.Held.{max_least}
use Rattle.floats_laws.proofs.Spans.{least-upto, max-least-left}
use Rattle.floats_laws.proofs.Fractions.{Above}
use Rattle.settings.specs.Settings.{max_hop, lawful_rate}
use Rattle.settings.specs.Envelope.{milli, min_stage, hop_floor_of, onset_of, release_of}
use Rattle.settings_laws.proofs.Rates.{rate_above}

-- ---- milliseconds: 5000 * 0.001 rounds to 5
five_thousand : HasValue (round binary32 false (5000 * 8589935) (2 ^ 33)) false 5 1
unfolding round
five_thousand = (refl, refl)

pub millis_mag : (x : Float) → Mag x 5000 → Mag (mul32 x milli) 5
unfolding mul of_bits
millis_mag nan h = absurd h
millis_mag (inf s) h = absurd h
millis_mag (fin s m e) h = go (unlike s false)
  where
    go : (t : Bool) → Mag (round binary32 t (m * up e * (8589935 * 1)) (down e * 2 ^ 33)) 5
    go t = round_mag binary32 t (m * up e * (8589935 * 1)) (down e * 2 ^ 33) (5000 * 8589935) (2 ^ 33) 5 (mul-pos (down_pos e) (pow_pos 33)) (pow_pos 33) (omega arith) five_thousand

-- ---- the hop's floor: at most 32768 / 8000
five : HasValue (round binary32 false 5 1) false 5 1
unfolding round
five = (refl, refl)

-- x / v at most 32768 and z / w at least 8000
ratio : (x v w z : ℕ) → x ≤ 32768 * v → 8000 * w ≤ z → x * w * 1 ≤ 5 * (z * v)
ratio x v w z h g =
    let a : x * w ≤ 32768 * (v * w) = le_trans (mul-le-mul_right w h) (le_of_eq (mul_assoc 32768 v w)) in
    let b : 8000 * (v * w) ≤ z * v = le_trans (le_of_eq (ap (λ (k : ℕ). 8000 * k) (mul_comm v w) ∙ sym (mul_assoc 8000 w v))) (mul-le-mul_right v g) in
    omega arith

per_rate : (x r : Float) → Upto x 32768 → Above r 8000 → Upto (div32 x r) 5
unfolding div
per_rate nan r h g = absurd h
per_rate (inf s) r h g = absurd h
per_rate (fin true m e) r h g = absurd h
per_rate (fin false m e) nan h g = absurd g
per_rate (fin false m e) (inf s) h g = absurd g
per_rate (fin false m e) (fin true n d) h g = absurd g
per_rate (fin false m e) (fin false n d) h g =
    by-case (eqb n 0) (λ q. absurd (nothing (eqb→eq n 0 (passes _ q))))
    (λ q. rw q (round-upto binary32 (m * up e * down d) (n * up d * down e) 5 1 5 (mul-pos above (down_pos e)) (pow_pos 0) (ratio (m * up e) (down e) (down d) (n * up d) h g) five))
  where
    above : 0 < n * up d
    above = more (n * up d) (down d) (down_pos d) g
      where
        more : (z w : ℕ) → 0 < w → 8000 * w ≤ z → 0 < z
        more z w W h = omega arith

    nothing : n ≡ 0 → ⊥
    nothing z = let y : n * up d ≡ 0 = ap (λ (k : ℕ). k * up d) z ∙ zero-mul (up d) in omega (arith, above)

pub floor-upto : (hop : ℕ) (rate : Float) → hop ≤ max_hop → T (lawful_rate rate) → Upto (hop_floor_of hop rate) 5
unfolding hop_floor_of of_bits
floor-upto hop rate h r = per_rate (mul32 two (of_int binary32 (pos hop))) rate (mul_upto binary32 two (of_int binary32 (pos hop)) 2 16384 (lit≤ tt) (lit≤ tt) (of_upto binary32 hop 16384 (lit≤ tt) h)) (rate_above rate r)

-- ---- the stages
stage_mag : Mag min_stage 5
unfolding of_bits
stage_mag = lit≤ tt

stage_least : Least min_stage 500
unfolding of_bits
stage_least = lit≤ tt

pub onset-least : (attack : Float) → Mag attack 5000 → Least (onset_of attack) 500
unfolding onset_of
onset-least attack h = max_least (mul32 attack milli) min_stage 500 5 (millis_mag attack h) stage_least

pub onset-upto : (attack : Float) → Mag attack 5000 → Upto (onset_of attack) 5
unfolding onset_of
onset-upto attack h = least-upto (onset_of attack) 500 5 (onset-least attack h) (max_mag (mul32 attack milli) min_stage 5 (millis_mag attack h) stage_mag)

module _ (release floor onset : Float) (R : Mag release 5000) (F : Upto floor 5) (O : Upto onset 5) where
  abbrev set : Float
  set = max (mul32 release milli) min_stage

  rest_mag : Mag (sub32 floor onset) 5
  rest_mag = apart_mag binary32 floor onset 5 (lit≤ tt) F O

  pub release-least : Least (release_of release floor onset) 500
  unfolding release_of
  release-least = max-least-left set (sub32 floor onset) 500 5 (max_least (mul32 release milli) min_stage 500 5 (millis_mag release R) stage_least) rest_mag

  pub release-upto : Upto (release_of release floor onset) 5
  unfolding release_of
  release-upto = least-upto (release_of release floor onset) 500 5 release-least (max_mag set (sub32 floor onset) 5 (max_mag (mul32 release milli) min_stage 5 (millis_mag release R) stage_mag) rest_mag)
