-- Rust's `rem_euclid`. Definitions only.
use Rattle.std.specs.Prelude.{false, cond, pos, Float}
use Rattle.std.specs.Float.{fin, Format}
use Rattle.std.specs.Float.Ieee.{rem, add, lt}
use Rattle.floats.specs.Choose.{abs}

unfoldable pub rem_euclid : Format → Float → Float → Float
rem_euclid f x m = let r = rem f x m in cond (lt r (fin false 0 (pos 0))) (add f r (abs m)) r
