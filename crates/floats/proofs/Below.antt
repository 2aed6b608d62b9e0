-- `x < y` and `y <= x` never hold at once, of any two floats: NaN, infinities and zeros with them.
use Rattle.std.proofs.Common.{◌≡◌, ℕ, ◌+◌, ◌*◌, ◌<◌, Bool, true, false, ◌&&◌, ◌||◌, eqb, sym, refl, ap, ◌∙◌, arith, ltb-true, le-ltb, ne_eqb, eqb-true}
use mathlib.Core.Bool.{false≢true}
use lib.Ieee.{Float, nan, inf, fin, below, level, up, down, lt, le, eq}

-- of two sizes with their signs
below_not_above : (s t : Bool) (a b : ℕ) → below s a t b ≡ true → (below t b s a || level t b s a) ≡ false
below_not_above false false a b h =
    let l : a < b = ltb-true _ _ h in
    ap (λ (x : Bool). x || (eqb b a && true)) (le-ltb b a (omega arith)) ∙ ap (λ (x : Bool). x && true) (ne_eqb b a (λ q. omega arith))
below_not_above false true a b h = absurd (false≢true h)
below_not_above true false a b h = go (eqb b a) refl
  where
    go : (t : Bool) → eqb b a ≡ t → (eqb b a && eqb b 0) ≡ false
    go true q =
        let l : 0 < a + b = ltb-true _ _ h in
        let e : b ≡ a = eqb-true _ _ q in
        ap (λ (x : Bool). x && eqb b 0) q ∙ ne_eqb b 0 (λ z. omega arith)
    go false q = ap (λ (x : Bool). x && eqb b 0) q
below_not_above true true a b h =
    let l : b < a = ltb-true _ _ h in
    ap (λ (x : Bool). x || (eqb b a && true)) (le-ltb a b (omega arith)) ∙ ap (λ (x : Bool). x && true) (ne_eqb b a (λ q. omega arith))

pub lt_not_le : (x y : Float) → lt x y ≡ true → le y x ≡ false
unfolding lt le eq
lt_not_le nan y h = absurd (false≢true h)
lt_not_le (inf s) nan h = absurd (false≢true h)
lt_not_le (inf true) (inf true) h = absurd (false≢true h)
lt_not_le (inf true) (inf false) h = refl
lt_not_le (inf false) (inf t) h = absurd (false≢true h)
lt_not_le (inf true) (fin t n d) h = refl
lt_not_le (inf false) (fin t n d) h = absurd (false≢true h)
lt_not_le (fin s m e) nan h = absurd (false≢true h)
lt_not_le (fin s m e) (inf true) h = absurd (false≢true h)
lt_not_le (fin s m e) (inf false) h = refl
lt_not_le (fin s m e) (fin t n d) h = below_not_above s t (m * up e * down d) (n * up d * down e) h

pub le_not_lt : (x y : Float) → le y x ≡ true → lt x y ≡ false
le_not_lt x y h = go (lt x y) refl
  where
    go : (t : Bool) → lt x y ≡ t → t ≡ false
    go true e = absurd (false≢true (sym (lt_not_le x y e) ∙ h))
    go false e = refl
