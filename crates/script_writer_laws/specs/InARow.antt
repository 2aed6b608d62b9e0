-- Events written one behind the other, as a host does it: each call begins at the count that the one before it answered. Definitions only.
use Rattle.std.specs.Prelude.{ℕ, List, [], ◌∷◌, length}
use Rattle.text.specs.Put.{buffer_of}
use Rattle.script.specs.declared.fields.Field.{Field}
use Rattle.script_writer.specs.Encoded.{encoded}
use Rattle.script_writer.specs.Written.{written_of}

unfoldable pub count_after : List ℕ → ℕ → List Field → ℕ
count_after o at [] = at
count_after o at (f ∷ fs) = count_after (buffer_of o at (encoded f)) (written_of (length o) at (encoded f)).0 fs

unfoldable pub bytes_after : List ℕ → ℕ → List Field → List ℕ
bytes_after o at [] = o
bytes_after o at (f ∷ fs) = bytes_after (buffer_of o at (encoded f)) (written_of (length o) at (encoded f)).0 fs
