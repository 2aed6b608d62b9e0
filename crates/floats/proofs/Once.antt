-- The remainder, over the format, of a number from the divisor up to below its double: the difference.
use Rattle.std.proofs.Common.{◌≡◌, ℕ, zero, suc, ◌+◌, ◌-◌, ◌*◌, ◌%◌, ◌<◌, ◌≤◌, Bool, true, false, cond, ◌&&◌, ◌||◌, T, eqb, ltb, ℤ, pos, sym, refl, ap, ◌∙◌, subst, mul-le-mul_right, mod-eq_of_lt, mul_assoc, mul-pos, zero-mul, arith, eqb→eq, ltb→lt, ltb-false, ltb-true, le-ltb}
use native.Mathlib.Nat.{mod-eq-sub-mod}
use mathlib.Core.Bool.{false≢true}
use lib.Dec.{eqb-suc-zero}
use lib.Ieee.{Float, nan, inf, fin, Format, up, down, round, rem, sub, add, sum, neg, lt, le, eq, fits}
use lib.Ieee.Fits.{down_pos, and_l, and_r}
use lib.Ieee.Order.{round_mono}
use lib.Ieee.Scale.{round_same}
use Rattle.floats.proofs.Values.{own-round}

or_l : (a b : Bool) → T (a || b) → (T a → ⊥) → T b
or_l true b h k = absurd (k tt)
or_l false b h k = h

-- below a number, and not below it
crossed : (y : Float) (n : ℕ) (d : ℤ) → lt y (fin false n d) ≡ true → T (le (fin false n d) y) → ⊥
unfolding lt le eq
crossed nan n d h k = false≢true h
crossed (inf true) n d h k = k
crossed (inf false) n d h k = false≢true h
crossed (fin true m e) n d h k = go (m * up e * down d) (n * up d * down e) (ltb-true _ _ h) k
  where
    go : (a b : ℕ) → 0 < a + b → T (eqb b a && eqb b 0) → ⊥
    go a b h k = let i = eqb→eq b a (and_l (eqb b a) (eqb b 0) k) in let j = eqb→eq b 0 (and_r (eqb b a) (eqb b 0) k) in omega arith
crossed (fin false m e) n d h k = go (m * up e * down d) (n * up d * down e) (ltb-true _ _ h) k
  where
    go : (a b : ℕ) → a < b → T (ltb b a || (eqb b a && true)) → ⊥
    go a b h k = let i = eqb→eq b a (and_l (eqb b a) true (or_l (ltb b a) (eqb b a && true) k (λ (t : T (ltb b a)). let l = ltb→lt b a t in omega arith))) in omega arith

-- sizes A and B, with the same denominators
once : (f : Format) (m : ℕ) (e : ℤ) (n : ℕ) (d : ℤ) → T (fits f (fin false n d)) → n * up d * down e ≤ m * up e * down d → lt (sub f (fin false m e) (fin false n d)) (fin false n d) ≡ true
    → 0 < n → sub f (fin false m e) (fin false n d) ≡ rem f (fin false m e) (fin false n d)
unfolding sub add neg sum rem
once f m e zero d q h k p = absurd (omega arith)
once f m e (suc n) d q h k p = go (ltb (A - B) B) refl
  where
    A : ℕ
    A = m * up e * down d

    B : ℕ
    B = suc n * up d * down e

    D : ℕ
    D = down e * down d

    is : sub f (fin false m e) (fin false (suc n) d) ≡ round f false (A - B) D
    is = ap (λ (t : Bool). cond t (round f true (B - A) D) (round f false (A - B) D)) (le-ltb A B h)

    divisor : round f false B D ≡ fin false (suc n) d
    divisor =
        round_same f false B D (suc n * up d) (down d) (mul-pos (down_pos e) (down_pos d)) (down_pos d) (mul_assoc (suc n * up d) (down e) (down d))
        ∙ own-round f false (suc n) d q

    go : (t : Bool) → ltb (A - B) B ≡ t → sub f (fin false m e) (fin false (suc n) d) ≡ rem f (fin false m e) (fin false (suc n) d)
    go true l =
        is ∙ ap (λ (z : ℕ). round f false z D) (sym (mod-eq-sub-mod h ∙ mod-eq_of_lt (ltb-true _ _ l)))
        ∙ sym (ap (λ (t : Bool). cond t nan (round f false (A % B) D)) (eqb-suc-zero n))
    go false l =
        absurd
        (crossed (round f false (A - B) D) (suc n) d (sym (ap (λ (z : Float). lt z (fin false (suc n) d)) is) ∙ k)
        (subst (λ (z : Float). T (le z (round f false (A - B) D))) divisor (round_mono f B D (A - B) D (mul-pos (down_pos e) (down_pos d)) (mul-pos (down_pos e) (down_pos d)) (mul-le-mul_right D (ltb-false _ _ l)))))

pub rem_once : (f : Format) (x m : Float) → T (fits f m) → le (fin false 0 (pos 0)) x ≡ true → lt x m ≡ false → lt (fin false 0 (pos 0)) m ≡ true → lt (sub f x m) m ≡ true → sub f x m ≡ rem f x m
unfolding le lt eq sub add neg
rem_once f nan m q z h o k = absurd (false≢true z)
rem_once f (inf true) m q z h o k = absurd (false≢true z)
rem_once f (inf false) nan q z h o k = absurd (false≢true o)
rem_once f (inf false) (inf true) q z h o k = absurd (false≢true o)
rem_once f (inf false) (inf false) q z h o k = absurd (false≢true k)
rem_once f (inf false) (fin t n d) q z h o k = absurd (false≢true k)
rem_once f (fin s m e) nan q z h o k = absurd (false≢true o)
rem_once f (fin s m e) (inf true) q z h o k = absurd (false≢true o)
rem_once f (fin s m e) (inf false) q z h o k = absurd (false≢true (sym h))
rem_once f (fin s m e) (fin true n d) q z h o k = absurd (false≢true o)
rem_once f (fin true m e) (fin false n d) q z h o k = absurd (let b : 0 < n * up d * down e = mul-pos (some n (up d) (down d) (ltb-true _ _ o)) (down_pos e) in let l : m * up e * down d + n * up d * down e ≤ 0 = ltb-false _ _ h in omega arith)
  where
    some : (n u d : ℕ) → 0 * 1 * d < n * u * 1 → 0 < n * u
    some n u d p = omega (arith, zero-mul d)
rem_once f (fin false m e) (fin false n d) q z h o k = once f m e n d q (ltb-false _ _ h) k (some n (up d) (down d) (ltb-true _ _ o))
  where
    some : (n u d : ℕ) → 0 * 1 * d < n * u * 1 → 0 < n
    some zero u d p = absurd (omega (arith, zero-mul d, zero-mul u))
    some (suc n) u d p = omega arith
