-- The remainder, over the format: that of two counts, and of a number from 0 up to below the divisor the number itself.
use Rattle.std.proofs.Common.{◌≡◌, ℕ, zero, suc, ◌+◌, ◌*◌, ◌%◌, ◌^◌, ◌<◌, Bool, true, false, cond, T, eqb, ℤ, pos, sym, refl, ap, ◌∙◌, subst, mod-eq_of_lt, mul_assoc, mul_comm, mul-pos, zero-mul, mul_right_comm, arith, eqb→eq, ltb-true}
use mathlib.Core.Bool.{false≢true}
use lib.Dec.{eqb-suc-zero}
use lib.Ieee.{Float, nan, inf, fin, Format, up, down, round, rem, lt, le, eq, below, fits}
use denote.Floats.{passes}
use lib.Ieee.Fits.{down_pos, and_l}
use lib.Ieee.Exact.{HasValue}
use lib.Ieee.Positive.{first_pos}
use lib.Ieee.Scale.{round_same}
use Rattle.floats.proofs.Values.{own-round}
use Rattle.floats.proofs.Residues.{mod_scaled}

-- sizes A below B, with the same denominators
less : (f : Format) (s : Bool) (m : ℕ) (e : ℤ) (t : Bool) (n : ℕ) (d : ℤ) → T (fits f (fin s m e)) → m * up e * down d < n * up d * down e → fin s m e ≡ rem f (fin s m e) (fin t n d)
unfolding rem
less f s m e t zero d p h = absurd (omega (arith, zero-mul (up d), zero-mul (down e)))
less f s m e t (suc n) d p h =
    sym
    (ap (λ (b : Bool). cond b nan (round f s (m * up e * down d % (suc n * up d * down e)) (down e * down d))) (eqb-suc-zero n)
    ∙ ap (λ (z : ℕ). round f s z (down e * down d)) (mod-eq_of_lt h)
    ∙ round_same f s (m * up e * down d) (down e * down d) (m * up e) (down e) (mul-pos (down_pos e) (down_pos d)) (down_pos e) (mul_right_comm (m * up e) (down d) (down e) ∙ mul_assoc (m * up e) (down e) (down d))
    ∙ own-round f s m e p)

-- ---- by counts a and b of 1 / l
pub rest-counts : (m : ℕ) (e : ℤ) (n : ℕ) (d : ℤ) (a b l : ℕ) → 0 < b → 0 < l → m * up e * l ≡ a * down e → n * up d * l ≡ b * down d
    → m * up e * down d % (n * up d * down e) * l ≡ a % b * (down e * down d)
rest-counts m e n d a b l B L v w =
    sym (mod_scaled (m * up e * down d) (n * up d * down e) l (some (n * up d * down e) (subst (λ (c : ℕ). 0 < c) (sym divisor) (mul-pos B D))) L)
    ∙ ap (λ (c : ℕ). c % (n * up d * down e * l)) dividend ∙ ap (λ (c : ℕ). a * (down e * down d) % c) divisor ∙ mod_scaled a b (down e * down d) B D
  where
    D : 0 < down e * down d
    D = mul-pos (down_pos e) (down_pos d)

    dividend : m * up e * down d * l ≡ a * (down e * down d)
    dividend = mul_right_comm (m * up e) (down d) l ∙ ap (λ (c : ℕ). c * down d) v ∙ mul_assoc a (down e) (down d)

    divisor : n * up d * down e * l ≡ b * (down e * down d)
    divisor = mul_right_comm (n * up d) (down e) l ∙ ap (λ (c : ℕ). c * down e) w ∙ mul_assoc b (down d) (down e) ∙ ap (λ (c : ℕ). b * c) (mul_comm (down d) (down e))

    some : (y : ℕ) → 0 < y * l → 0 < y
    some y p = first_pos y l p

pub rem_counts : (f : Format) (x y : Float) (s t : Bool) (a b l : ℕ) → 0 < b → 0 < l → HasValue x s a l → HasValue y t b l → rem f x y ≡ round f s (a % b) l
unfolding rem
rem_counts f nan y s t a b l B L v w = absurd v
rem_counts f (inf u) y s t a b l B L v w = absurd v
rem_counts f (fin u m e) nan s t a b l B L v w = absurd w
rem_counts f (fin u m e) (inf z) s t a b l B L v w = absurd w
rem_counts f (fin u m e) (fin z zero d) s t a b l B L v w = absurd (let p : 0 < b * down d = mul-pos B (down_pos d) in omega (arith, w.1, zero-mul (up d), zero-mul l))
rem_counts f (fin u m e) (fin z (suc n) d) s t a b l B L v w =
    ap (λ (c : Bool). cond c nan (round f u (m * up e * down d % (suc n * up d * down e)) (down e * down d))) (eqb-suc-zero n)
    ∙ ap (λ (c : Bool). round f c (m * up e * down d % (suc n * up d * down e)) (down e * down d)) v.0
    ∙ round_same f s (m * up e * down d % (suc n * up d * down e)) (down e * down d) (a % b) l (mul-pos (down_pos e) (down_pos d)) L (rest-counts m e (suc n) d a b l B L v.1 w.1)

-- ---- a number from 0 up to below the divisor
pub rem_inside : (f : Format) (x m : Float) → T (fits f x) → le (fin false 0 (pos 0)) x ≡ true → lt x m ≡ true → x ≡ rem f x m
unfolding le lt eq rem
rem_inside f nan m p h k = refl
rem_inside f (inf true) m p h k = absurd (false≢true h)
rem_inside f (inf false) nan p h k = absurd (false≢true k)
rem_inside f (inf false) (inf t) p h k = absurd (false≢true k)
rem_inside f (inf false) (fin t n d) p h k = absurd (false≢true k)
rem_inside f (fin s m e) nan p h k = absurd (false≢true k)
rem_inside f (fin s m e) (inf t) p h k = refl
rem_inside f (fin false m e) (fin true n d) p h k = absurd (false≢true k)
rem_inside f (fin false m e) (fin false n d) p h k = less f false m e false n d p (ltb-true _ _ k)
rem_inside f (fin true m e) (fin t n d) p h k = less f true m e t n d p (zero_less t (m * up e) (down e) (down d) (n * up d * down e) (eqb→eq _ _ (and_l (eqb (0 * 2 ^ 0 * down e) (m * up e * 1)) _ (passes _ h))) k)
  where
    zero_less : (t : Bool) (a d g b : ℕ) → 0 * 1 * d ≡ a * 1 → below true (a * g) t b ≡ true → a * g < b
    zero_less t a d g b z k = go t (ap (λ (c : ℕ). c * g) (none a d z) ∙ zero-mul g) k
      where
        none : (a d : ℕ) → 0 * 1 * d ≡ a * 1 → a ≡ 0
        none a d z = omega (arith, zero-mul d)

        go : (t : Bool) → a * g ≡ 0 → below true (a * g) t b ≡ true → a * g < b
        go true z k = let l : b < a * g = ltb-true _ _ k in omega arith
        go false z k = let l : 0 < a * g + b = ltb-true _ _ k in omega arith
