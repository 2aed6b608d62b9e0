-- Choosing among floats, as Rust has it. Definitions only.
use Rattle.std.specs.Prelude.{false, cond, is_nan, Float}
use Rattle.std.specs.Float.{nan, inf, fin}
use Rattle.std.specs.Float.Ieee.{lt}

-- the larger; the first of two that are level, so of two zeros (01); the other where one is a NaN
unfoldable pub max : Float → Float → Float
max x y = cond (is_nan x) y (cond (lt x y) y x)

unfoldable pub min : Float → Float → Float
min x y = cond (is_nan x) y (cond (lt y x) y x)

-- x held to a at least and b at most; a NaN x stays
unfoldable pub clamp : Float → Float → Float → Float
clamp x a b = let y = cond (lt x a) a x in cond (lt b y) b y

unfoldable pub abs : Float → Float
abs nan = nan
abs (inf s) = inf false
abs (fin s m e) = fin false m e
