-- A shut bin, of either zero, has the gain of 0.
use Prim.Native.Nat.{ℕ, zero, suc, ◌*◌, ◌^◌, ◌<◌}
use native.Mathlib.Nat.{zero-mul, mul-one, mul-pos, zero-lt-suc}
use native.Mathlib.Omega.{arith}
use mathlib.Core.Path.{◌≡◌, refl, sym, ap, ◌∙◌, subst}
use mathlib.Core.Bool.{Bool, true, false}
use lib.IntN.{ℤ, pos}
use lib.Dec.{T, eqb, eqb→eq}
use lib.Ieee.{Float, nan, inf, fin, binary32, of_bits, up, down, round, add, sub, neg, eq, fits}
use lib.Ieee as Ieee
use lib.Ieee.Fits.{up_pos, and_l}
use Rattle.floats_laws.proofs.Rising.{nought}
use Rattle.floats_laws.proofs.Units.{one as i, zero_fits}
use Rattle.floats.proofs.Values.{same_fin}
use Rattle.floats.specs.Names.{zero32, one}

at_zero : (s : Bool) → sub binary32 i (fin s 0 (pos 0)) ≡ i
unfolding sub add neg Ieee.sum round Ieee.units Ieee.odd Ieee.size Ieee.span Ieee.climb
at_zero true = refl
at_zero false = refl

some : (s : Bool) (m : ℕ) (e : ℤ) → T (eq (fin s (suc m) e) nought) → suc m * up e * 1 ≡ 0 * 2 ^ 0 * down e
unfolding eq
some true m e h = eqb→eq (suc m * up e * 1) (0 * 2 ^ 0 * down e) (and_l (eqb (suc m * up e * 1) (0 * 2 ^ 0 * down e)) (eqb (suc m * up e * 1) 0) h)
some false m e h = eqb→eq (suc m * up e * 1) (0 * 2 ^ 0 * down e) (and_l (eqb (suc m * up e * 1) (0 * 2 ^ 0 * down e)) true h)

flat : (o : Float) → T (fits binary32 o) → eq o nought ≡ true → sub binary32 i o ≡ i
unfolding eq
flat nan p h = absurd (subst T (sym h) tt)
flat (inf s) p h = absurd (subst T (sym h) tt)
flat (fin s zero e) p h = ap (sub binary32 i) (same_fin binary32 s 0 e 0 (pos 0) p (zero_fits binary32 s) (rw (zero-mul (up e), zero-mul (down e)))) ∙ at_zero s
flat (fin s (suc m) e) p h =
    absurd (let w : 0 < suc m * up e = mul-pos (zero-lt-suc m) (up_pos e) in omega (arith, some s m e (subst T (sym h) tt), mul-one (suc m * up e), zero-mul (down e)))

pub closed_bin : (o : Float) → T (fits binary32 o) → eq o zero32 ≡ true → sub binary32 one zero32 ≡ sub binary32 one o
unfolding of_bits
closed_bin o p h = at_zero false ∙ sym (flat o p h)
