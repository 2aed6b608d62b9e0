-- The records of a mask file, byte by byte (order 5). All numbers are big-endian. Definitions only.
use Rattle.std.specs.Prelude.{ℕ, ◌*◌, List, [], ◌∷◌, ◌++◌, length}
use Rattle.big_endian.specs.Bytes.{bytes16, bytes64, tagged}

-- one u16 a bin
unfoldable pub pairs_of : List ℕ → List ℕ
pairs_of [] = []
pairs_of (e ∷ es) = bytes16 e ++ pairs_of es

-- tag 32 with the sample and the bin count, then tag 33 with the entries
unfoldable pub record_of : ℕ → List ℕ → List ℕ
record_of sample es = tagged 32 (bytes64 sample ++ bytes16 (length es)) ++ tagged 33 (pairs_of es)

-- a file: records one behind the other, each given by its sample and its entries
unfoldable pub file_of : List (ℕ × List ℕ) → List ℕ
file_of [] = []
file_of (r ∷ rs) = record_of r.0 r.1 ++ file_of rs

-- a record's first sixteen bytes, all before the entries
unfoldable pub head_of : ℕ → ℕ → List ℕ
head_of sample count = tagged 32 (bytes64 sample ++ bytes16 count) ++ 33 ∷ bytes16 (2 * count)
