-- A prepared stream's next start is finite for every index, lane and sync, and so is the Cloud's reference for every opportunity.
use Prim.Native.Nat.{ℕ, ◌*◌, ◌/◌, ◌%◌, ◌^◌, ◌≤◌, ◌<◌}
use native.Mathlib.Nat.{le_of_lt, le_trans, div-le_self}
use native.Mathlib.Omega.{arith}
use mathlib.Core.Bool.{Bool, true, false}
use lib.IntN.{pos}
use lib.Dec.{T, lit≤}
use lib.Ieee.{Float, binary32, binary64, of_bits, of_int}
use lib.Ieee.Scale.{finite}
use Rattle.floats.specs.Word.{grown}
use Rattle.floats.specs.Names.{f32, f64, mul32, add64, sub64, mul64}
use Rattle.floats.specs.Whole.{floor}
use Rattle.floats_laws.proofs.Mag.{Mag, upto_mag, mag_finite, mag_more}
use Rattle.floats_laws.proofs.Bounds.{add_mag, sub_mag, mul_mag, of_upto}
use Rattle.floats_laws.proofs.Powers.{add_power, mul_power, of_power, floor_mag}
use Rattle.draws.specs.Draws.{random_of, key_of}
use Rattle.draws.proofs.Drawn.{random_mag}
use Rattle.timing.specs.Starts.{quarter_cycle, half_cycle, start_of, gap_of, human_of, next_of}
use Rattle.timing.specs.Streams.{prepared_stream, reference_of}

-- ---- the parts
pub start_mag : (key : ℕ) → Mag (start_of key) 10
unfolding start_of of_bits
start_mag key =
    let step = mul32 (random_of key 0) (f32 0x41100000) in
    let m1 = floor_mag binary32 step 9 (lit≤ tt) (mul_mag binary32 (random_of key 0) (f32 0x41100000) 1 9 (lit≤ tt) (random_mag key 0) (lit≤ tt)) in
    let m2 = mul_mag binary64 (floor binary32 step) quarter_cycle 9 1 (lit≤ tt) m1 (lit≤ tt) in
    add_mag binary64 quarter_cycle (mul64 (floor binary32 step) quarter_cycle) 1 9 (lit≤ tt) (lit≤ tt) m2

pub gap_mag : (key : ℕ) → Mag (gap_of key) 3
unfolding gap_of of_bits
gap_mag key =
    let step = mul32 (random_of (grown key) 0) (f32 0x40400000) in
    mul_mag binary64 (floor binary32 step) quarter_cycle 3 1 (lit≤ tt) (floor_mag binary32 step 3 (lit≤ tt) (mul_mag binary32 (random_of (grown key) 0) (f32 0x40400000) 1 3 (lit≤ tt) (random_mag (grown key) 0) (lit≤ tt))) (lit≤ tt)

-- a draw about its middle, times a number of at most 1
pub about_mag : (x : Float) (index stream : ℕ) → Mag x 1 → Mag (mul64 x (sub64 (random_of index stream) half_cycle)) 2
unfolding of_bits
about_mag x index stream h = mul_mag binary64 x (sub64 (random_of index stream) half_cycle) 1 2 (lit≤ tt) h (sub_mag binary64 (random_of index stream) half_cycle 1 1 (lit≤ tt) (random_mag index stream) (lit≤ tt))

pub human_mag : (sync : Bool) (key : ℕ) → Mag (human_of sync key) 2
unfolding human_of of_bits
human_mag true key = lit≤ tt
human_mag false key = about_mag (f64 0x3fc70a3d70a3d70a) key 8 (lit≤ tt)

-- ---- sums with a whole number of 64 bits
pub next_mag : (index key : ℕ) (sync : Bool) → index < 2 ^ 64 → Mag (next_of index key sync) (2 ^ 69)
unfolding next_of of_bits
next_mag index key sync h =
    let group = of_int binary64 (pos (index / 2)) in
    let second = of_int binary64 (pos (index % 2)) in
    let three = f64 0x4008000000000000 in
    let x1 = mul64 group three in
    let x2 = add64 x1 (start_of key) in
    let x3 = mul64 second (gap_of key) in
    let x4 = add64 x2 x3 in
    let m1 = mul_power binary64 group three 64 2 (lit≤ tt) (of_power binary64 (index / 2) 64 (lit≤ tt) (le_trans (div-le_self index 2) (le_of_lt h))) (lit≤ tt) in
    let m2 = add_power binary64 x1 (start_of key) 66 (lit≤ tt) m1 (mag_more (start_of key) 10 (2 ^ 66) (lit≤ tt) (start_mag key)) in
    let m3 = mul_mag binary64 second (gap_of key) 1 3 (lit≤ tt) (upto_mag second 1 (of_upto binary64 (index % 2) 1 (lit≤ tt) (one_most index))) (gap_mag key) in
    let m4 = add_power binary64 x2 x3 67 (lit≤ tt) m2 (mag_more x3 3 (2 ^ 67) (lit≤ tt) m3) in
    add_power binary64 x4 (human_of sync key) 68 (lit≤ tt) m4 (mag_more (human_of sync key) 2 (2 ^ 68) (lit≤ tt) (human_mag sync key))
  where
    one_most : (n : ℕ) → n % 2 ≤ 1
    one_most n = omega arith

pub prepared-finite : (index lane : ℕ) (sync : Bool) → index < 2 ^ 64 → T (finite (prepared_stream index lane sync).next)
unfolding prepared_stream
prepared-finite index lane sync h = mag_finite (next_of index (key_of lane (index / 2 * 2)) sync) (2 ^ 69) (next_mag index (key_of lane (index / 2 * 2)) sync h)

pub reference_finite : (opportunity : ℕ) → opportunity < 2 ^ 64 → T (finite (reference_of opportunity))
unfolding reference_of of_bits
reference_finite opportunity h =
    let whole = of_int binary64 (pos opportunity) in
    let middle = add64 whole half_cycle in
    let off = mul64 (f64 0x3fe6666666666666) (sub64 (random_of opportunity 0) half_cycle) in
    let m1 = of_power binary64 opportunity 64 (lit≤ tt) (le_of_lt h) in
    let m2 = add_power binary64 whole half_cycle 64 (lit≤ tt) m1 (mag_more half_cycle 1 (2 ^ 64) (lit≤ tt) (lit≤ tt)) in
    let m3 = about_mag (f64 0x3fe6666666666666) opportunity 0 (lit≤ tt) in
    mag_finite (add64 middle off) (2 ^ 66) (add_power binary64 middle off 65 (lit≤ tt) m2 (mag_more off 2 (2 ^ 65) (lit≤ tt) m3))
