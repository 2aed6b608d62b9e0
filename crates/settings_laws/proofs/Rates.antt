-- Lawful sample rates: from 8,000 to 384,000, and each a whole number of 2,048ths.
use Prim.Native.Nat.{ℕ, ◌≤◌}
use native.Mathlib.Nat.{le_trans, mul-le-mul_right, le_of_mul-le-mul_right}
use native.Mathlib.Omega.{arith}
use mathlib.Core.Path.{refl}
use mathlib.Core.Bool.{true, false, ◌&&◌}
use lib.Dec.{T, lit≤, lit<}
use lib.Ieee.{Float, nan, inf, fin, binary32, of_bits, fits, le, lt, eq}
use lib.Ieee.Bits.{of_bits-fits}
use lib.Ieee.Exact.{HasValue}
use lib.Ieee.Fits.{down_pos, and_l, and_r}
use lib.Ieee.Scale.{finite}
use Rattle.floats.specs.Names.{f32}
use Rattle.floats_laws.proofs.Rules.{le_trans as float-trans}
use Rattle.floats_laws.proofs.Rising.{nought}
use Rattle.floats_laws.proofs.Mag.{Mag, le_upto}
use Rattle.floats_laws.proofs.Between.{above_of}
use Rattle.floats_laws.proofs.Fractions.{Above}
use Rattle.floats_laws.proofs.Units.{zero_fits}
use Rattle.floats_laws.proofs.Parts.{whole_parts}
use Rattle.settings.specs.Settings.{lawful_rate}

abbrev lowest : Float
lowest = f32 0x45fa0000

abbrev highest : Float
highest = f32 0x48bb8000

-- ---- the two ends
pub rate_above : (rate : Float) → T (lawful_rate rate) → Above rate 8000
unfolding lawful_rate of_bits
rate_above rate l =
    let bounds = le lowest rate && le rate highest in
    above_of lowest rate 8000 (lit< tt) (lit≤ tt) (and_l (le lowest rate) (le rate highest) (and_r (finite rate) bounds l)) (and_l (finite rate) bounds l)

pub rate_mag : (rate : Float) → T (fits binary32 rate) → T (lawful_rate rate) → Mag rate 384000
unfolding lawful_rate of_bits le lt eq
rate_mag rate p l =
    let bounds = le lowest rate && le rate highest in
    let b = and_r (finite rate) bounds l in
    le_upto rate highest 384000 (float-trans binary32 nought lowest rate (zero_fits binary32 false) (of_bits-fits binary32 0x45fa0000) p tt (and_l (le lowest rate) (le rate highest) b)) (and_r (le lowest rate) (le rate highest) b) (lit≤ tt)

-- ---- in 2,048ths
above_fewer : (x : Float) (b c : ℕ) → b ≤ c → Above x c → Above x b
above_fewer nan b c h a = a
above_fewer (inf s) b c h a = a
above_fewer (fin true m e) b c h a = a
above_fewer (fin false m e) b c h a = le_trans (mul-le-mul_right _ h) a

least_of : (x : Float) (k : ℕ) → HasValue x false k 2048 → Above x 8000 → 16384000 ≤ k
least_of nan k v a = absurd v
least_of (inf s) k v a = absurd v
least_of (fin true m e) k v a = absurd a
least_of (fin false m e) k v a = le_of_mul-le-mul_right (omega (arith, a, v.1)) (down_pos e)

most_of : (x : Float) (k : ℕ) → HasValue x false k 2048 → Mag x 384000 → k ≤ 786432000
most_of nan k v a = absurd v
most_of (inf s) k v a = absurd v
most_of (fin s m e) k v a = le_of_mul-le-mul_right (omega (arith, a, v.1)) (down_pos e)

pub record InParts (rate : Float) : Type 0 where
  pub parts : ℕ
  pub is : HasValue rate false parts 2048
  pub least : 16384000 ≤ parts
  pub most : parts ≤ 786432000

pub rate-parts : (rate : Float) → T (fits binary32 rate) → T (lawful_rate rate) → InParts rate
rate-parts rate p l =
    let w = whole_parts binary32 rate 12 11 refl p (above_fewer rate 4096 8000 (lit≤ tt) (rate_above rate l)) in
    record { parts = w.0; is = w.1; least = least_of rate w.0 w.1 (rate_above rate l); most = most_of rate w.0 w.1 (rate_mag rate p l) }
