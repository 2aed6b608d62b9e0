-- The draws, line by line as the Rust and as SplitMix64's reference in C have them. Definitions only.
use Rattle.std.specs.Prelude.{ℕ, ◌*◌, ◌/◌, ◌%◌, ◌^◌, List, [], ◌∷◌, pos, get_or, Float}
use Rattle.std.specs.Int.Bits.{bit_or, bit_xor}
use Rattle.std.specs.Float.{binary32}
use Rattle.std.specs.Float.Ieee.{of_int}
use Rattle.floats.specs.Names.{f32, div32}
use Rattle.floats.specs.Word.{product}

-- SplitMix64, the output function: `z = (z ^ (z >> 30)) * C1; z = (z ^ (z >> 27)) * C2; return z ^ (z >> 31);` on 64-bit words
unfoldable pub mix_of : ℕ → ℕ
mix_of x =
    let y = product (bit_xor x (x / 2 ^ 30)) 0xbf58476d1ce4e5b9 in
    let z = product (bit_xor y (y / 2 ^ 27)) 0x94d049bb133111eb in
    bit_xor z (z / 2 ^ 31)

abbrev pub seed : ℕ
seed = 0x7765667470617274

-- the 24 highest bits of a mixed key
unfoldable pub drawn_of : ℕ → ℕ → ℕ
drawn_of index stream = mix_of (bit_xor (bit_xor seed (product index 0x9e3779b97f4a7c15)) (product stream 0xd1b54a32d192ed03)) / 2 ^ 40

unfoldable pub random_of : ℕ → ℕ → Float
random_of index stream = div32 (of_int binary32 (pos (drawn_of index stream))) (f32 0x4b800000)

-- timing=0, source/register=1/2, lifetime=3, Sprinkle grouping=5, width=7, free timing=8, opening=10, free root=11, partial count=12
unfoldable pub streams : List ℕ
streams = 0 ∷ 1 ∷ 2 ∷ 3 ∷ 5 ∷ 7 ∷ 8 ∷ 10 ∷ 11 ∷ 12 ∷ []

-- weighted draws=13/14/15
unfoldable pub stream_of : ℕ → ℕ
unfolding streams
stream_of place = get_or streams place 13

-- (1 << 62) | (lane << 59) | index
unfoldable pub key_of : ℕ → ℕ → ℕ
key_of lane index = bit_or (bit_or (2 ^ 62) (lane * 2 ^ 59 % 2 ^ 64)) index
