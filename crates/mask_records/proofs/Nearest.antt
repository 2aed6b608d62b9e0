-- The code's tenths are the nearest tenths, for every attenuation; and what the nearest tenth is.
use Prim.Native.Nat.{ℕ, zero, suc, ◌+◌, ◌*◌, ◌/◌, ◌^◌, ◌≤◌, ◌<◌}
use native.Mathlib.Nat.{le_antisymm, le_of_suc-le-suc, lt_irrefl, lt_of_lt_of_le, mul-one, mul-pos, lt_of_mul-lt-mul_right, pow-le-pow_right, div-add-mod', mod-lt, div-lt_iff_lt-mul, zero-mul}
use native.Mathlib.Omega.{arith}
use mathlib.Core.Path.{◌≡◌, refl, sym, ap, ◌∙◌, subst}
use mathlib.Core.Bool.{true, false}
use lib.IntN.{ℤ, pos, negsuc}
use lib.Dec.{T, leb, ltb, eqb, eqb→eq}
use lib.Pow.{pow_pos}
use lib.Ieee.{Float, nan, inf, fin, binary32, binary64, up, down, round, of_bits, add, mul, sum, lt, le, eq, fits, is_nan, to_unsigned}
use lib.Ieee.Fits.{down_pos, and_l}
use borrow.Author.Tests.{leb-true, leb-false, ltb-true, ltb-false, eqb-true, eqb-false}
use Rattle.sequences.specs.Pick.{pick, picked, passed, either, by-case}
use Rattle.floats.proofs.Values.{fine, same_fin}
use Rattle.floats.proofs.Pack.{pow_lt_back}
use Rattle.floats.proofs.Narrow.{is_nan_lem}
use Rattle.floats.specs.Choose.{clamp}
use Rattle.floats.specs.Names.{f64, add64, mul64, zero32}
use Rattle.floats_laws.proofs.Rising.{nought}
use Rattle.floats_laws.proofs.Units.{zero_fits}
use Rattle.floats_laws.proofs.Mag.{Mag}
use Rattle.floats_laws.proofs.Held.{clamp_mag}
use Rattle.floats_laws.proofs.Choosing.{clamp-fits, clamp-least}
use Rattle.mask_records.specs.Rule.{Tenth}
use Rattle.mask_records.specs.Tenths.{held, least_from, nearest, tenths_of}
use Rattle.mask_records.proofs.Exact.{ten, half, product, with_half, near-sum, tiny_sum}

abbrev sixty : Float
sixty = fin false 15 (pos 2)

-- ---- the whole part of 10a + 1/2
abbrev whole : Float → ℕ
whole nan = 0
whole (inf s) = 0
whole (fin s m e) = (20 * (m * up e) + down e) / (2 * down e)

few-places : (m : ℕ) (e : ℤ) → m < 2 ^ 24 → 2 ^ 28 < down e → 32 * (m * up e) < down e
few-places m (pos k) h l = absurd (omega arith)
few-places m (negsuc k) h l =
    let g : 28 < suc k = pow_lt_back 28 (suc k) l in
    let w : 2 ^ 29 ≤ 2 ^ suc k = pow-le-pow_right {n = 2} (omega arith) {i = 29} {j = suc k} (omega arith) in
    omega arith

abbrev coded : Float → ℕ
coded x = to_unsigned 64 (add binary64 (mul binary64 x ten) half)

plain : (m : ℕ) (e : ℤ) → T (fits binary32 (fin false m e)) → m * up e ≤ 60 * down e → coded (fin false m e) ≡ whole (fin false m e)
plain m e p h =
    ap (to_unsigned 64) (with_half (mul binary64 (fin false m e) ten) (m * up e) (down e) (down_pos e) (product m e p h))
    ∙ by-case (leb (down e) (2 ^ 28)) (λ y. near-sum (m * up e) e h (leb-true _ _ y))
    (λ n. tiny_sum (m * up e) e h (few-places m e (fine binary32 false m e p).few (leb-false _ _ n)))

none : (m : ℕ) (e : ℤ) → T (le nought (fin true m e)) → m * up e ≡ 0
unfolding le lt eq
none m e h = let z : 0 * 1 * down e ≡ m * up e * 1 = eqb→eq _ _ (and_l (eqb (0 * 1 * down e) (m * up e * 1)) _ h) in omega (arith, zero-mul (down e))

minus_zero : coded (fin true 0 (pos 0)) ≡ 0
unfolding to_unsigned add sum mul round
minus_zero = refl

code_is : (x : Float) → T (fits binary32 x) → Mag x 60 → T (le nought x) → coded x ≡ whole x
code_is nan p M L = absurd M
code_is (inf s) p M L = absurd M
code_is (fin false m e) p M L = plain m e p M
code_is (fin true m e) p M L =
    let z : m * up e ≡ 0 = none m e L in
    let q : fin true m e ≡ fin true 0 (pos 0) = same_fin binary32 true m e 0 (pos 0) p (zero_fits binary32 true) (mul-one (m * up e) ∙ z ∙ sym (zero-mul (down e))) in
    ap coded q ∙ minus_zero ∙ ap whole (sym q)

-- ---- the one n with 2n - 1 <= 20a < 2n + 1
is_tenth : (x : Float) → Mag x 60 → Tenth x (whole x)
is_tenth nan M = absurd M
is_tenth (inf s) M = absurd M
is_tenth (fin s m e) M =
    let n = 20 * (m * up e) + down e in
    let d = 2 * down e in
    let D : 0 < d = mul-pos {m = 2} {n = down e} (pow_pos 1) (down_pos e) in
    let a = div-add-mod' n d in
    let b = mod-lt n D in
    (omega arith, omega arith)

less : (d X n k : ℕ) → 2 * n * d ≤ 20 * X + d → 20 * X < (2 * k + 1) * d → n ≤ k
less d X n k h l = le_of_suc-le-suc (let g : n < suc k = lt_of_mul-lt-mul_right d (omega arith) in g)

pub tenth_only : (x : Float) (n k : ℕ) → Tenth x n → Tenth x k → n ≡ k
tenth_only nan n k a b = absurd a
tenth_only (inf s) n k a b = absurd a
tenth_only (fin s m e) n k a b = le_antisymm (less (down e) (m * up e) n k a.0 b.1) (less (down e) (m * up e) k n b.0 a.1)

-- the search finds it
least-is : (f n q X d : ℕ) → n ≤ q → q ≤ n + f → 2 * q * d ≤ 20 * X + d → 20 * X < (2 * q + 1) * d → q ≡ least_from f n X d
unfolding least_from
least-is zero n q X d a b h l = le_antisymm (omega arith) a
least-is (suc f) n q X d a b h l =
    by-case (ltb (20 * X) ((2 * n + 1) * d))
    (λ y. le_antisymm (less d X q n h (ltb-true _ _ y)) a ∙ picked _ _ _ y)
    (λ z. least-is f (n + 1) q X d (past z) (omega arith) h l ∙ passed _ _ _ z)
  where
    past : ltb (20 * X) ((2 * n + 1) * d) ≡ false → n + 1 ≤ q
    past z =
        by-case (eqb n q) (λ y. absurd (let e : n ≡ q = eqb-true n q y in let g = ltb-false _ _ z in lt_irrefl _ (lt_of_lt_of_le l (rw (sym e) g))))
        (λ u. let w = eqb-false n q u in omega arith)

whole_most : (x : Float) → Mag x 60 → whole x ≤ 600
whole_most nan M = absurd M
whole_most (inf s) M = absurd M
whole_most (fin s m e) M = le_of_suc-le-suc ((div-lt_iff_lt-mul (mul-pos {m = 2} {n = down e} (pow_pos 1) (down_pos e))).1 (omega (arith, down_pos e)))

whole_is : (x : Float) → Mag x 60 → whole x ≡ nearest x
whole_is nan M = absurd M
whole_is (inf s) M = absurd M
whole_is (fin s m e) M =
    let t = is_tenth (fin s m e) M in
    least-is 600 0 (whole (fin s m e)) (m * up e) (down e) (omega arith) (whole_most (fin s m e) M) t.0 t.1

-- ---- every attenuation
nothing : coded (held nan) ≡ nearest (held nan)
unfolding clamp lt to_unsigned add mul of_bits
nothing = refl

held_mag : (a : Float) → is_nan a ≡ false → Mag (held a) 60
unfolding of_bits
held_mag a n = clamp_mag a nought sixty 60 n (omega arith) (omega arith)

module _ (a : Float) (p : T (fits binary32 a)) where
  held_fits : T (fits binary32 (held a))
  unfolding of_bits fits
  held_fits = clamp-fits binary32 a nought sixty p tt tt

  held-least : is_nan a ≡ false → T (le nought (held a))
  unfolding of_bits fits le lt eq
  held-least n = clamp-least binary32 a nought sixty p tt tt (rw n tt) tt

  pub tenths-code : to_unsigned 64 (add64 (mul64 (held a) (f64 0x4024000000000000)) (f64 0x3fe0000000000000)) ≡ tenths_of a
  unfolding tenths_of of_bits
  tenths-code =
      by-case (is_nan a) (λ y. rw (is_nan_lem a y) nothing)
      (λ n. code_is (held a) held_fits (held_mag a n) (held-least n) ∙ whole_is (held a) (held_mag a n))

-- order 5's rule: the whole number n with 2n - 1 <= 20a < 2n + 1, for a held to 0 to 60
pub tenths-is : (a : Float) → is_nan a ≡ false → Tenth (held a) (tenths_of a)
unfolding tenths_of
tenths-is a n = subst (Tenth (held a)) (whole_is (held a) (held_mag a n)) (is_tenth (held a) (held_mag a n))

least_most : (f n X d : ℕ) → least_from f n X d ≤ n + f
unfolding least_from
least_most zero n X d = omega arith
least_most (suc f) n X d = either (λ r. r ≤ n + suc f) (ltb (20 * X) ((2 * n + 1) * d)) n (least_from f (n + 1) X d) (omega arith) (let h = least_most f (n + 1) X d in omega arith)

nearest_most : (x : Float) → nearest x ≤ 600
nearest_most nan = omega arith
nearest_most (inf s) = omega arith
nearest_most (fin s m e) = least_most 600 0 (m * up e) (down e)

pub tenths_most : (a : Float) → tenths_of a ≤ 600
unfolding tenths_of
tenths_most a = nearest_most (held a)

-- no attenuation at all
pub no_tenths : tenths_of zero32 ≡ 0
unfolding tenths_of least_from pick clamp lt of_bits
no_tenths = refl
