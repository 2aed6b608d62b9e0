-- What one reading of the script hands to the writer. Definitions only.
use Rattle.std.specs.Prelude.{ℕ, List, [], ◌∷◌, Some, None, Ok, Err}
use Rattle.script.specs.declared.fields.Field.{Field}
use Rattle.script.specs.Field.{Read}

-- the field that was read, or none
abbrev pub field_in : Read → List Field
field_in (Ok (Some (f, k))) = f ∷ []
field_in (Err c) = []
field_in (Ok None) = []

-- how many bytes it takes; a field takes three at least
abbrev pub taken_by : Read → ℕ
taken_by (Ok (Some (f, k))) = k
taken_by (Err c) = 0
taken_by (Ok None) = 0
