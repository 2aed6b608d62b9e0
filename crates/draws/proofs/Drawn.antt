-- A draw lies from 0 up to below 1, and is a multiple of 2 ^ -24.
use Prim.Native.Nat.{ℕ, ◌*◌, ◌/◌, ◌^◌, ◌<◌}
use native.Mathlib.Nat.{le_of_lt, lt_of_le_of_lt, lt_of_lt_of_le, mod-lt, div-le_self, mul-pos, mul_assoc, mul_left_comm, mul-lt-mul_of_pos_right}
use native.Mathlib.Omega.{arith}
use mathlib.Core.Path.{◌≡◌, refl, sym, ap, ◌∙◌, subst}
use mathlib.Core.Bool.{true, false, true≢false}
use lib.IntN.{pos}
use lib.Dec.{T, lit≤}
use lib.Bits.{bit_xor, xor_lt}
use lib.Pow.{pow_pos, pow-add, pow_mono, shr_lt}
use lib.Ieee.{Float, nan, inf, fin, binary32, up, down, of_int, of_bits, div, lt, le}
use lib.Ieee.Fits.{down_pos}
use lib.Ieee.Exact.{HasValue, round_exact}
use lib.Ieee.Back.{round_whole}
use lib.Ieee.Bits.{is_true}
use lib.Ieee.Order.{le_of_values}
use lib.Ieee.Scale.{round_same}
use borrow.Author.Tests.{lt-ltb}
use denote.Floats.{passes}
use Rattle.floats.specs.Word.{product}
use Rattle.floats.proofs.Order.{lt_values}
use Rattle.floats_laws.proofs.Rules.{lt→le}
use Rattle.floats_laws.proofs.Rising.{nought}
use Rattle.floats_laws.proofs.Mag.{Mag, le_upto}
use Rattle.draws.specs.Draws.{mix_of, drawn_of, random_of}

product_lt : (a b : ℕ) → product a b < 2 ^ 64
unfolding product
product_lt a b = mod-lt (a * b) (pow_pos 64)

pub mix_lt : (x : ℕ) → mix_of x < 2 ^ 64
unfolding mix_of
mix_lt x =
    let y = product (bit_xor x (x / 2 ^ 30)) 0xbf58476d1ce4e5b9 in
    let z = product (bit_xor y (y / 2 ^ 27)) 0x94d049bb133111eb in
    let h : z < 2 ^ 64 = product_lt (bit_xor y (y / 2 ^ 27)) 0x94d049bb133111eb in
    xor_lt 64 z (z / 2 ^ 31) h (lt_of_le_of_lt (div-le_self z (2 ^ 31)) h)

pub drawn_lt : (index stream : ℕ) → drawn_of index stream < 2 ^ 24
unfolding drawn_of
drawn_lt index stream = shr_lt 24 40 (mix_lt _)

-- n / 2 ^ 24 is a float for every n of 24 bits
quotient : (x : Float) (n : ℕ) → n < 2 ^ 24 → HasValue x false n 1 → HasValue (div binary32 x (fin false 1 (pos 24))) false n (2 ^ 24)
unfolding div
quotient nan n h v = absurd v
quotient (inf s) n h v = absurd v
quotient (fin true m e) n h v = absurd (true≢false v.0)
quotient (fin false m e) n h v =
    subst (λ (y : Float). HasValue y false n (2 ^ 24))
    (round_same binary32 false n (2 ^ 24) (m * up e * 1) (1 * 2 ^ 24 * down e) (pow_pos 24) (mul-pos (pow_pos 24) (down_pos e)) (cross n (m * up e) (down e) v.1))
    (round_exact binary32 false n (2 ^ 24) n 125 (pow_pos 24) h (lt_of_lt_of_le (mul-lt-mul_of_pos_right h (pow_pos 125)) (pow_mono {i = 149} {j = 277} (lit≤ tt))) (split n))
  where
    cross : (n a d : ℕ) → a * 1 ≡ n * d → n * (1 * 2 ^ 24 * d) ≡ a * 1 * 2 ^ 24
    cross n a d h = omega (arith, ap (λ (z : ℕ). z * 16777216) h, mul_left_comm n 16777216 d)

    split : (n : ℕ) → n * 2 ^ 149 ≡ n * 2 ^ 125 * 2 ^ 24
    split n = ap (λ (z : ℕ). n * z) (pow-add 2 125 24) ∙ sym (mul_assoc n (2 ^ 125) (2 ^ 24))

-- a draw is its 24 bits over 2 ^ 24
pub random-value : (index stream : ℕ) → HasValue (random_of index stream) false (drawn_of index stream) (2 ^ 24)
unfolding random_of of_int of_bits
random-value index stream = let h = drawn_lt index stream in quotient (of_int binary32 (pos (drawn_of index stream))) (drawn_of index stream) h (round_whole binary32 false (drawn_of index stream) (le_of_lt h))

under_one : (x : Float) (n : ℕ) → n < 2 ^ 24 → HasValue x false n (2 ^ 24) → T (le nought x) × T (lt x (fin false 1 (pos 0)))
under_one x n h v = (
  le_of_values nought x 0 1 n (2 ^ 24) (pow_pos 0) (pow_pos 24) (refl, refl) v (omega arith),
  passes _ (lt_values x (fin false 1 (pos 0)) n (2 ^ 24) 1 1 (pow_pos 24) (pow_pos 0) v (refl, refl) ∙ lt-ltb (n * 1) (1 * 2 ^ 24) (omega arith)),
)

pub random_in : (index stream : ℕ) → T (le nought (random_of index stream)) × T (lt (random_of index stream) (fin false 1 (pos 0)))
random_in index stream = under_one (random_of index stream) (drawn_of index stream) (drawn_lt index stream) (random-value index stream)

-- the same as a bound
pub random_mag : (index stream : ℕ) → Mag (random_of index stream) 1
random_mag index stream =
    let draw = random_of index stream in
    let h = random_in index stream in
    le_upto draw (fin false 1 (pos 0)) 1 h.0 (lt→le draw (fin false 1 (pos 0)) (is_true (lt draw (fin false 1 (pos 0))) h.1)) (lit≤ tt)
