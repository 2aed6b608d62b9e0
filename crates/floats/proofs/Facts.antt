-- A float compared with itself: only a NaN differs.
use Rattle.std.proofs.Common.{◌≡◌, ℕ, ◌*◌, Bool, true, false, not, ◌&&◌, ◌||◌, T, eqb, sym, refl, ap, ◌∙◌, subst}
use mathlib.Core.Bool.{beq}
use lib.Dec.{eqb_refl}
use lib.Ieee.{Float, nan, inf, fin, up, down, ne, eq, is_nan}
use lib.Ieee.Bits.{is_true}

same_sign : (s : Bool) → beq s s ≡ true
same_sign true = refl
same_sign false = refl

level_self : (n : ℕ) (s : Bool) → eqb n n && (beq s s || eqb n 0) ≡ true
level_self n s = rw (is_true (eqb n n) (eqb_refl n), same_sign s)

pub eq_self : (x : Float) → eq x x ≡ not (is_nan x)
unfolding eq is_nan
eq_self nan = refl
eq_self (inf s) = same_sign s
eq_self (fin s m e) = level_self (m * up e * down e) s

pub ne_self : (x : Float) → ne x x ≡ is_nan x
unfolding ne
ne_self x = ap not (eq_self x) ∙ twice (is_nan x)
  where
    twice : (b : Bool) → not (not b) ≡ b
    twice true = refl
    twice false = refl

-- what a test `x != x` that failed says
pub no_nan : (x : Float) → ne x x ≡ false → T (not (is_nan x))
no_nan x h = subst (λ (t : Bool). T (not t)) (sym (sym (ne_self x) ∙ h)) tt
