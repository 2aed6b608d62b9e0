-- A shape and a direction as bytes. Definitions only.
use Rattle.std.specs.Prelude.{ℕ, List, [], ◌∷◌}
use Rattle.settings.specs.declared.Shape.{Shape}
use Rattle.settings.specs.declared.Direction.{Direction}
use Rattle.settings.specs.ByNumber.{shape_number, direction_number}

abbrev pub shape_byte : Shape → List ℕ
shape_byte s = shape_number s ∷ []

abbrev pub direction_byte : Direction → List ℕ
direction_byte d = direction_number d ∷ []
