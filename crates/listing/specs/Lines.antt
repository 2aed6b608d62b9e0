-- The lines that a script prints, as pieces in a row. Definitions only.
use Rattle.std.specs.Prelude.{ℕ, List, [], ◌∷◌, ◌++◌}
use Rattle.text.specs.Ascii.{ascii}
use Rattle.text.specs.Number.{dec, hex}
use Rattle.text.specs.Put.{joined}
use Rattle.refusals.specs.declared.Refusal.{Refusal}
use Rattle.refusals.specs.Numbers.{number_of}
use Rattle.script_steps.specs.declared.values.Values.{Values}
use Rattle.listing.specs.declared.lines.Line.{Line}
use Rattle.listing.specs.declared.lines.Line.TheVariants as L

unfoldable pub times_pieces : Values → List (List ℕ)
times_pieces v = ascii " sample " ∷ dec v.sample ∷ ascii " ms " ∷ dec v.ms ∷ ascii " active " ∷ dec v.active ∷ []

unfoldable pub counts_pieces : Values → List (List ℕ)
counts_pieces v = ascii " births " ∷ dec v.births ∷ ascii " dropped " ∷ dec v.dropped ∷ []

unfoldable pub marks_pieces : Values → List (List ℕ)
marks_pieces v = ascii " hash " ∷ hex 16 v.hash ∷ ascii " activity " ∷ hex 8 v.activity ∷ []

unfoldable pub frame_pieces : ℕ → Values → List (List ℕ)
frame_pieces n v = (ascii "frame " ∷ dec n ∷ []) ++ times_pieces v ++ counts_pieces v ++ marks_pieces v ++ (ascii "\n" ∷ [])

-- `field N`, a word and the refusal's number
unfoldable pub field_pieces : ℕ → List ℕ → Refusal → List (List ℕ)
field_pieces n word r = ascii "field " ∷ dec n ∷ word ∷ dec (number_of r) ∷ []

unfoldable pub refused_pieces : ℕ → Refusal → List (List ℕ)
refused_pieces n r = field_pieces n (ascii " refused ") r ++ (ascii "\n" ∷ [])

-- with the byte place where the script is broken
unfoldable pub bad_pieces : ℕ → Refusal → ℕ → List (List ℕ)
bad_pieces n r place = field_pieces n (ascii " bad ") r ++ (ascii " at " ∷ dec place ∷ ascii "\n" ∷ [])

unfoldable pub end_pieces : ℕ → List (List ℕ)
end_pieces n = ascii "end " ∷ dec n ∷ ascii "\n" ∷ []

abbrev pub pieces_of : Line → List (List ℕ)
pieces_of L.Nothing = []
pieces_of (L.Frame n v) = frame_pieces n v
pieces_of (L.Refused n r) = refused_pieces n r
pieces_of (L.Bad n r p) = bad_pieces n r p
pieces_of (L.End n) = end_pieces n

abbrev pub text_of : Line → List ℕ
text_of l = joined (pieces_of l)

abbrev pub text_all : List Line → List ℕ
text_all [] = []
text_all (l ∷ ls) = text_of l ++ text_all ls
