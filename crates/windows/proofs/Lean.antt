-- Of the Rust's clamps in `openness` one test is ever taken: what a window has inside is at most 1.
use Prim.Native.Nat.{ℕ, zero, suc, ◌+◌, ◌*◌, ◌^◌, ◌<◌}
use native.Mathlib.Nat.{zero-mul, mul-one, mul-pos, zero-lt-suc}
use native.Mathlib.Omega.{arith}
use mathlib.Core.Path.{◌≡◌, refl, sym, ap, ◌∙◌, subst}
use mathlib.Core.Bool.{Bool, true, false, not, cond, ◌&&◌}
use lib.IntN.{ℤ}
use lib.Dec.{T, eqb, ltb, lt→ltb}
use lib.Ieee.{Float, nan, inf, fin, Format, prec, emax, low, binary32, of_bits, up, down, round, add, sub, div, neg, lt, le, eq, fits}
use lib.Ieee as Ieee
use lib.Ieee.Fits.{sub-fits, div-fits, and_i, eq→eqb, up_pos, round_is}
use lib.Ieee.Order.{kept, drop}
use Rattle.floats.specs.Choose.{abs, clamp}
use Rattle.floats_laws.proofs.Ends.{not_above, from_zero}
use Rattle.floats_laws.proofs.Gap.{one_number}
use Rattle.floats_laws.proofs.Rising.{nought, sub_falls, or_left, or_right}
use Rattle.floats_laws.proofs.Units.{one as i, one-fits, zero_fits}
use Rattle.floats_laws.proofs.Proportions.{one-less-nothing}
use Rattle.windows.specs.declared.Window.{Window}
use Rattle.floats.specs.Names.{zero32, one}
use Rattle.windows.specs.Opening.{cubic, taper_of, inside_of}

-- ---- 1 - q is at most 1 where q has no minus
abbrev unsigned : Float → Bool
unsigned nan = true
unsigned (inf s) = not s
unsigned (fin s m e) = not s

at_most_one : (q : Float) → T (fits binary32 q) → T (unsigned q) → lt i (sub binary32 i q) ≡ false
unfolding sub add neg lt Ieee.is_nan
at_most_one nan p h = refl
at_most_one (inf true) p h = absurd h
at_most_one (inf false) p h = refl
at_most_one (fin true m e) p h = absurd h
at_most_one (fin false m e) p h =
    not_above binary32 (sub binary32 i (fin false m e)) i (sub-fits binary32 i (fin false m e)) (one-fits binary32)
    (subst (λ (x : Float). T (le (sub binary32 i (fin false m e)) x)) one-less-nothing (sub_falls binary32 i nought (fin false m e) (zero_fits binary32 false) p (from_zero binary32 m e p) (one_number binary32 nought tt) (one_number binary32 (fin false m e) tt)))

-- ---- a quotient of what has no minus by what is not at or below 0
cond_unsigned : (b : Bool) (x y : Float) → T (unsigned x) → T (unsigned y) → T (unsigned (cond b x y))
cond_unsigned true x y p q = p
cond_unsigned false x y p q = q

odd_unsigned : (d q k l : ℕ) → T (unsigned (Ieee.odd d false q k l))
unfolding Ieee.odd
odd_unsigned d zero k l = tt
odd_unsigned d (suc q) k l = tt

units_unsigned : (f : Format) (q k : ℕ) → T (unsigned (Ieee.units f false q k))
unfolding Ieee.units
units_unsigned f q k = cond_unsigned (ltb (q * 2 ^ k) (2 ^ (low f + suc (emax f)))) (Ieee.odd (suc (prec f)) false q k (low f)) (inf false) (odd_unsigned (suc (prec f)) q k (low f)) tt

round_unsigned : (f : Format) (a b : ℕ) → T (unsigned (round f false a b))
round_unsigned f a b = subst (λ (x : Float). T (unsigned x)) (sym (round_is f false a b)) (units_unsigned f (kept (prec f) (a * 2 ^ low f) b) (drop (prec f) (a * 2 ^ low f) b))

minus-below : (n : ℕ) (g : ℤ) → T (le (fin true n g) nought)
unfolding le lt eq
minus-below zero g = or_right (ltb 0 (0 * up g * 1 + 0 * 2 ^ 0 * down g)) _ (and_i (eqb (0 * up g * 1) (0 * 2 ^ 0 * down g)) (eqb (0 * up g * 1) 0) (eq→eqb {a = 0 * up g * 1} {b = 0 * 2 ^ 0 * down g} (omega (arith, zero-mul (up g), zero-mul (down g)))) (eq→eqb {a = 0 * up g * 1} {b = 0} (omega (arith, zero-mul (up g)))))
minus-below (suc n) g = or_left (ltb 0 (suc n * up g * 1 + 0 * 2 ^ 0 * down g)) (eqb (suc n * up g * 1) (0 * 2 ^ 0 * down g) && eqb (suc n * up g * 1) 0) (lt→ltb 0 (suc n * up g * 1 + 0 * 2 ^ 0 * down g) (let p : 0 < suc n * up g = mul-pos (zero-lt-suc n) (up_pos g) in omega (arith, mul-one (suc n * up g))))

not_minus : (n : ℕ) (g : ℤ) → le (fin true n g) nought ≡ false → ⊥
not_minus n g h = subst T h (minus-below n g)

lowest-below : le (inf true) nought ≡ false → ⊥
unfolding le lt eq
lowest-below h = subst T h tt

quotient : (d r : Float) → le r nought ≡ false → T (unsigned (div binary32 (abs d) r))
unfolding div abs
quotient nan r h = tt
quotient (inf s) nan h = tt
quotient (inf s) (inf t) h = tt
quotient (inf s) (fin false n g) h = tt
quotient (inf s) (fin true n g) h = absurd (not_minus n g h)
quotient (fin s m e) nan h = tt
quotient (fin s m e) (inf false) h = tt
quotient (fin s m e) (inf true) h = absurd (lowest-below h)
quotient (fin s m e) (fin false n g) h = cond_unsigned (eqb n 0) (cond (eqb m 0) nan (inf false)) (round binary32 false (m * up e * down g) (n * up g * down e)) (cond_unsigned (eqb m 0) nan (inf false) tt tt) (round_unsigned binary32 (m * up e * down g) (n * up g * down e))
quotient (fin s m e) (fin true n g) h = absurd (not_minus n g h)

-- ---- the two clamps of what is at most 1
zero_clamp : clamp nought nought i ≡ nought
unfolding clamp lt
zero_clamp = refl

one-clamp : (x : Float) → lt i x ≡ false → clamp x nought i ≡ cond (lt x nought) nought x
unfolding clamp lt
one-clamp x h = go (lt x nought)
  where
    go : (b : Bool) → cond (lt i (cond b nought x)) i (cond b nought x) ≡ cond b nought x
    go true = refl
    go false = ap (λ (b : Bool). cond b i x) h

two_clamps : (x : Float) → lt i x ≡ false → clamp (clamp x nought i) nought i ≡ cond (lt x nought) nought x
two_clamps x h = ap (λ (y : Float). clamp y nought i) (one-clamp x h) ∙ go (lt x nought) refl
  where
    go : (b : Bool) → lt x nought ≡ b → clamp (cond b nought x) nought i ≡ cond b nought x
    go true e = zero_clamp
    go false e = one-clamp x h ∙ ap (λ (b : Bool). cond b nought x) e

pub lean : (w : Window) (log : Float) → le w.radius_octaves zero32 ≡ false → cubic (cond (lt (inside_of w log) zero32) zero32 (inside_of w log)) ≡ taper_of (clamp (inside_of w log) zero32 one)
unfolding taper_of inside_of of_bits
lean w log h =
    let d = sub binary32 log w.center_log2_hz in
    let q = div binary32 (abs d) w.radius_octaves in
    ap cubic (sym (two_clamps (sub binary32 i q) (at_most_one q (div-fits binary32 (abs d) w.radius_octaves) (quotient d w.radius_octaves h))))
