-- Two floats that are the same by a computed test.
use mathlib.Core.Path.{◌≡◌, refl, ap}
use mathlib.Core.Bool.{Bool, true, false, ◌&&◌, beq}
use lib.IntN.{ℤ, pos, negsuc}
use lib.Dec.{T, eqb, eqb→eq}
use lib.Ieee.{Float, nan, inf, fin}
use lib.Ieee.Fits.{and_l, and_r}

abbrev sameℤ : ℤ → ℤ → Bool
sameℤ (pos a) (pos b) = eqb a b
sameℤ (pos a) (negsuc b) = false
sameℤ (negsuc a) (pos b) = false
sameℤ (negsuc a) (negsuc b) = eqb a b

sameℤ→≡ : (d e : ℤ) → T (sameℤ d e) → d ≡ e
sameℤ→≡ (pos a) (pos b) t = ap pos (eqb→eq a b t)
sameℤ→≡ (pos a) (negsuc b) t = absurd t
sameℤ→≡ (negsuc a) (pos b) t = absurd t
sameℤ→≡ (negsuc a) (negsuc b) t = ap negsuc (eqb→eq a b t)

same_bool→≡ : (a b : Bool) → T (beq a b) → a ≡ b
same_bool→≡ true true t = refl
same_bool→≡ true false t = absurd t
same_bool→≡ false true t = absurd t
same_bool→≡ false false t = refl

abbrev pub same : Float → Float → Bool
same nan nan = true
same nan (inf t) = false
same nan (fin t n d) = false
same (inf s) nan = false
same (inf s) (inf t) = beq s t
same (inf s) (fin t n d) = false
same (fin s m e) nan = false
same (fin s m e) (inf t) = false
same (fin s m e) (fin t n d) = beq s t && eqb m n && sameℤ e d

pub same→≡ : (x y : Float) → T (same x y) → x ≡ y
same→≡ nan nan h = refl
same→≡ nan (inf t) h = absurd h
same→≡ nan (fin t n d) h = absurd h
same→≡ (inf s) nan h = absurd h
same→≡ (inf s) (inf t) h = ap inf (same_bool→≡ s t h)
same→≡ (inf s) (fin t n d) h = absurd h
same→≡ (fin s m e) nan h = absurd h
same→≡ (fin s m e) (inf t) h = absurd h
same→≡ (fin s m e) (fin t n d) h =
    let a = beq s t in
    let b = eqb m n in
    let c = sameℤ e d in
    rw (same_bool→≡ s t (and_l a b (and_l (a && b) c h)), eqb→eq m n (and_r a b (and_l (a && b) c h)), sameℤ→≡ e d (and_r (a && b) c h))
