-- The order that `PartialOrd` has of floats is IEEE 754's. A law that `Real` rests on.
use Rattle.std.specs.Prelude.{◌≡◌, Bool, true, false, cond, Some, None, Float, refl}
use Rattle.std.specs.Float.Ieee.{lt, eq}
use Rattle.std.specs.declared.cmp.Ordering.TheVariants.{Less, Equal, Greater}
use Rattle.std.specs.Ordering.{is_lt, is_some_and, float_partial_cmp, partial_lt}

by_tests : (a b c : Bool) → is_some_and is_lt (cond a (Some Less) (cond b (Some Equal) (cond c (Some Greater) None))) ≡ a
by_tests true b c = refl
by_tests false true c = refl
by_tests false false true = refl
by_tests false false false = refl

pub float_below : (x y : Float) → partial_lt float_partial_cmp x y ≡ lt x y
float_below x y = by_tests (lt x y) (eq x y) (lt y x)
