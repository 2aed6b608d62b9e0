-- Numbers as bytes, big-endian, by halves as the reader puts them together; floats by their bits, every NaN by one pattern; and the tagged form. Definitions only.
use Rattle.std.specs.Prelude.{ℕ, ◌/◌, ◌%◌, Bool, true, false, List, [], ◌∷◌, ◌++◌, length, Float}
use Rattle.std.specs.Float.Ieee.{to_bits}
use Rattle.std.specs.Float.{binary32, binary64}

abbrev pub bytes16 : ℕ → List ℕ
bytes16 n = n / 256 ∷ n % 256 ∷ []

abbrev pub bytes32 : ℕ → List ℕ
bytes32 n = bytes16 (n / 65536) ++ bytes16 (n % 65536)

abbrev pub bytes64 : ℕ → List ℕ
bytes64 n = bytes32 (n / 4294967296) ++ bytes32 (n % 4294967296)

-- `to_bits` writes the NaN as 7FC00000, and in 64 bits as 7FF8000000000000
abbrev pub single : Float → List ℕ
single x = bytes32 (to_bits binary32 x)

abbrev pub double : Float → List ℕ
double x = bytes64 (to_bits binary64 x)

-- false 0, true 1
abbrev pub flag_of : Bool → ℕ
flag_of false = 0
flag_of true = 1

abbrev pub flag : Bool → List ℕ
flag b = flag_of b ∷ []

-- the tagged form: the tag, the length of the value, the value
abbrev pub tagged : ℕ → List ℕ → List ℕ
tagged tag v = tag ∷ bytes16 (length v) ++ v
