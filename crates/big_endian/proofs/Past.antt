-- A number that begins past the end of the bytes is 0.
use Prim.Native.Nat.{ℕ, ◌+◌, ◌≤◌}
use native.Mathlib.Omega.{arith}
use mathlib.Core.Path.{◌≡◌}
use mathlib.Core.List.{List}
use lib.ListN.{length, get_or, get_or-eq_default}
use Rattle.big_endian.specs.Numbers.{be16, be32, be64}

byte_past : (s : List ℕ) (i : ℕ) → length s ≤ i → get_or s i 0 ≡ 0
byte_past s i h = get_or-eq_default s 0 h

pub past16 : (s : List ℕ) (i : ℕ) → length s ≤ i → 0 ≡ be16 s i
past16 s i h = omega (arith, byte_past s i h, byte_past s (i + 1) (omega arith))

pub past32 : (s : List ℕ) (i : ℕ) → length s ≤ i → 0 ≡ be32 s i
unfolding be32
past32 s i h = omega (arith, past16 s i h, past16 s (i + 2) (omega arith))

pub past64 : (s : List ℕ) (i : ℕ) → length s ≤ i → 0 ≡ be64 s i
unfolding be64
past64 s i h = omega (arith, past32 s i h, past32 s (i + 4) (omega arith))
