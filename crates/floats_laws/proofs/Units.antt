-- The zeros and 1, over the format: every format holds them, they are in order, and 1 is no factor.
use Prim.Native.Nat.{ℕ, ◌*◌}
use native.Mathlib.Nat.{one-mul}
use mathlib.Core.Path.{◌≡◌, refl, ap, ◌∙◌}
use mathlib.Core.Bool.{Bool, true, false}
use lib.IntN.{ℤ, pos}
use lib.Dec.{T}
use lib.Ieee.{Float, nan, inf, fin, Format, binary32, binary64, up, down, round, mul, lt, le, eq, fits}
use Rattle.floats_laws.proofs.Rising.{nought}
use Rattle.floats.proofs.Values.{own-round}

abbrev pub one : Float
one = fin false 1 (pos 0)

pub zero_fits : (f : Format) (s : Bool) → T (fits f (fin s 0 (pos 0)))
unfolding fits
zero_fits f s = tt

pub one-fits : (f : Format) → T (fits f one)
unfolding fits
one-fits binary32 = tt
one-fits binary64 = tt

pub unit : T (le nought one)
unfolding le lt eq
unit = tt

-- a sign goes through
kept_sign : (f : Format) (s : Bool) (m : ℕ) (e : ℤ) → T (fits f (fin s m e)) → round f s (1 * 1 * (m * up e)) (1 * down e) ≡ fin s m e
kept_sign f s m e p =
    ap (λ (a : ℕ). round f s a (1 * down e)) (one-mul (m * up e)) ∙ ap (λ (b : ℕ). round f s (m * up e) b) (one-mul (down e)) ∙ own-round f s m e p

pub one-times : (f : Format) (x : Float) → T (fits f x) → mul f one x ≡ x
unfolding mul
one-times f nan p = refl
one-times f (inf true) p = refl
one-times f (inf false) p = refl
one-times f (fin true m e) p = kept_sign f true m e p
one-times f (fin false m e) p = kept_sign f false m e p
