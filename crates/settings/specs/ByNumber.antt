-- Shapes and directions by their numbers: in a script, for a host and for the oracle. Definitions only.
use Rattle.std.specs.Prelude.{ℕ, cond, eqb}
use Rattle.settings.specs.declared.Shape.{Shape}
use Rattle.settings.specs.declared.Shape.TheVariants.{Sprinkle, Cloud}
use Rattle.settings.specs.declared.Direction.{Direction}
use Rattle.settings.specs.declared.Direction.TheVariants.{Forward, Reverse, Alternate}

-- shape 0 is Sprinkle, 1 Cloud
abbrev pub shape_number : Shape → ℕ
shape_number Sprinkle = 0
shape_number Cloud = 1

-- direction 0 forward, 1 reverse, 2 alternate
abbrev pub direction_number : Direction → ℕ
direction_number Forward = 0
direction_number Reverse = 1
direction_number Alternate = 2

-- and back, where every number above them counts as the last
abbrev pub shape_from : ℕ → Shape
shape_from n = cond (eqb n 0) Sprinkle Cloud

abbrev pub direction_from : ℕ → Direction
direction_from n = cond (eqb n 0) Forward (cond (eqb n 1) Reverse Alternate)
