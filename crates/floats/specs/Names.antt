-- Short names of the operations at one format and of a few numbers, for definitions that follow a line of Rust. Definitions only.
use Rattle.std.specs.Prelude.{ℕ, T, pos, from_bits, Float}
use Rattle.std.specs.Float.{binary32, binary64}
use Rattle.std.specs.Float.Ieee.{fits, of_int, neg, add, sub, mul, div}

abbrev pub f32 : ℕ → Float
f32 b = from_bits binary32 b

abbrev pub f64 : ℕ → Float
f64 b = from_bits binary64 b

abbrev pub add32 : Float → Float → Float
add32 = add binary32

abbrev pub sub32 : Float → Float → Float
sub32 = sub binary32

abbrev pub mul32 : Float → Float → Float
mul32 = mul binary32

abbrev pub div32 : Float → Float → Float
div32 = div binary32

abbrev pub add64 : Float → Float → Float
add64 = add binary64

abbrev pub sub64 : Float → Float → Float
sub64 = sub binary64

abbrev pub mul64 : Float → Float → Float
mul64 = mul binary64

abbrev pub div64 : Float → Float → Float
div64 = div binary64

-- 0.0 and -0.0 as f32, 0.0 as f64
abbrev pub zero32 : Float
zero32 = f32 0x00000000

abbrev pub minus_zero32 : Float
minus_zero32 = neg zero32

abbrev pub zero64 : Float
zero64 = f64 0x0000000000000000

-- 0.5, 1.0 and 2.0 as f32
abbrev pub half : Float
half = f32 0x3f000000

abbrev pub one : Float
one = f32 0x3f800000

abbrev pub two : Float
two = f32 0x40000000

-- n as f32
abbrev pub as_float : ℕ → Float
as_float n = of_int binary32 (pos n)

-- x is an f32, x is an f64
abbrev pub Single : Float → Type 0
Single x = T (fits binary32 x)

abbrev pub Double : Float → Type 0
Double x = T (fits binary64 x)
