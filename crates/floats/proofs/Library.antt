-- What the library's methods answer, in the words of this crate's definitions.
use Rattle.std.proofs.Common.{◌≡◌, ℕ, ◌+◌, ◌-◌, ◌/◌, ◌<◌, true, false, refl, ap, arith}
use Rattle.std.specs.Float as Float
use Rattle.std.specs.Float.{float_is_finite}
use lib.Ieee.{Float, nan, inf, fin, Format, round}
use lib.Ieee.Fits.{down_pos}
use lib.Ieee.Scale.{finite}
use Rattle.floats.specs.Whole.{floor, ceil}

up-to : (a d : ℕ) → 0 < d → (a + d - 1) / d ≡ (a + (d - 1)) / d
up-to a d h = ap (λ (n : ℕ). n / d) (omega arith)

pub floor-is : (f : Format) (x : Float) → Float.floor f x ≡ floor f x
unfolding floor Float.round_with
floor-is f nan = refl
floor-is f (inf s) = refl
floor-is f (fin false m e) = refl
floor-is f (fin true m e) = ap (λ (n : ℕ). round f true n 1) (up-to _ _ (down_pos e))

pub ceil-is : (f : Format) (x : Float) → Float.ceil f x ≡ ceil f x
unfolding ceil Float.round_with
ceil-is f nan = refl
ceil-is f (inf s) = refl
ceil-is f (fin false m e) = ap (λ (n : ℕ). round f false n 1) (up-to _ _ (down_pos e))
ceil-is f (fin true m e) = refl

pub finite-is : (x : Float) → float_is_finite x ≡ finite x
unfolding float_is_finite
finite-is nan = refl
finite-is (inf s) = refl
finite-is (fin s m e) = refl
