-- What all five powers have in common, at either width: their special values, that they never fall, and so that at or below 0 they lie from 0 to 1.
use Rattle.std.proofs.Common.{◌≡◌, true, false, not, T, pos, subst}
use lib.Ieee.{Float, nan, inf, fin, le, is_nan}
use Rattle.floats_laws.proofs.Rules.{le_left}
use Rattle.floats_laws.proofs.Rising.{lowest, nought}
use Rattle.floats_laws.proofs.Units.{one}

pub record PowerLike (p : Float → Float) : Type 0 where
  pub at_nan : p nan ≡ nan
  pub at_minus_infinity : p (inf true) ≡ nought
  pub at_infinity : p (inf false) ≡ inf false
  pub at_zero : p nought ≡ one
  pub at_minus_zero : p (fin true 0 (pos 0)) ≡ one
  pub never_falls : (x y : Float) → T (le x y) → T (le (p x) (p y))

module _ {p : Float → Float} (P : PowerLike p) (x : Float) where
  pub not_negative : T (not (is_nan x)) → T (le nought (p x))
  not_negative u = subst (λ (z : Float). T (le z (p x))) P.at_minus_infinity (P.never_falls (inf true) x (lowest x u))

  pub at_most_one : T (le x nought) → T (le (p x) one)
  at_most_one l = subst (λ (z : Float). T (le (p x) z)) P.at_zero (P.never_falls x nought l)

  pub in_unit : T (le x nought) → T (le nought (p x)) × T (le (p x) one)
  in_unit l = (not_negative (le_left x nought l), at_most_one l)
