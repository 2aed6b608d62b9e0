-- The rows of a picture of masks, and what a record's entries come to in one. Definitions only.
use Rattle.std.specs.Prelude.{ℕ, ◌+◌, ◌-◌, ◌*◌, ◌/◌, ◌%◌, ◌^◌, min, List, [], ◌∷◌, ltb, length, take, drop}
use Rattle.sequences.specs.Pick.{pick}

-- how many bins a row has: eight rows an octave, so one bin each up to bin 15, then twice as many with each octave
unfoldable pub row_width : ℕ → ℕ
row_width row = 2 ^ (row / 8 - 1)

-- the lowest bin of a row; its others are those below the next row's
unfoldable pub first_bin : ℕ → ℕ
first_bin row = pick (ltb row 8) row ((8 + row % 8) * row_width row)

unfoldable pub entries_sum : List ℕ → ℕ
entries_sum [] = 0
entries_sum (e ∷ es) = e + entries_sum es

-- the whole part of the mean
unfoldable pub mean_of : List ℕ → ℕ
mean_of es = entries_sum es / length es

-- the entries of a row's bins, as far as the record has them
unfoldable pub row_entries : ℕ → List ℕ → List ℕ
row_entries row es = take (min (first_bin (row + 1)) (length es) - first_bin row) (drop (first_bin row) es)
