-- The code's way to the milliseconds: the rate in 2,048ths is a whole number, and what is divided before it is multiplied loses nothing.
use Prim.Native.Nat.{ℕ, ◌+◌, ◌*◌, ◌/◌, ◌%◌, ◌^◌, ◌≤◌, ◌<◌}
use native.Mathlib.Nat.{lt_of_lt_of_le, mul_assoc, mul_right_comm, mul-le-mul_left, add-mul, mod-lt, mod-add-div', div-lt_iff_lt-mul, add-mul-div_right, mul-div-mul_right}
use native.Mathlib.Omega.{arith}
use mathlib.Core.Path.{◌≡◌, refl, sym, ap, ◌∙◌, subst}
use mathlib.Core.Bool.{true, false}
use lib.IntN.{pos}
use lib.Count.{count_trailing_zeros}
use lib.Dec.{T, le→leb, lit<}
use lib.Ieee.{Float, binary32, binary64, of_bits, of_fields, odd, of_int, round, to_unsigned, in_float, fits}
use lib.Ieee.Exact.{HasValue}
use lib.Ieee.Scale.{round_same}
use lib.Ieee.Positive.{num, den, den_pos, positive_of_value, value→cross, mul_at}
use lib.Ieee.Back.{unsigned_back}
use Rattle.floats.specs.Names.{f64, mul64}
use Rattle.sequences.specs.Pick.{took}
use Rattle.settings.specs.Settings.{lawful_rate}
use Rattle.settings_laws.proofs.Rates.{InParts, rate-parts}
use Rattle.script_steps.specs.Values.{milliseconds_of}

-- ---- the rate in 2,048ths, as the code has it
-- 2,048
abbrev pub many : Float
many = f64 0x40a0000000000000

many_is : HasValue many false 2048 1
unfolding of_bits of_fields odd count_trailing_zeros
many_is = (refl, refl)

in_float_lem : (k : ℕ) → k ≤ 786432000 → T (in_float binary64 (pos k))
unfolding in_float
in_float_lem k h = le→leb k (2 ^ 53) (omega arith)

as_integer : (k : ℕ) → round binary64 false k 1 ≡ of_int binary64 (pos k)
unfolding of_int
as_integer k = refl

pub parts-code : (rate : Float) (w : InParts rate) → to_unsigned 64 (mul64 rate many) ≡ w.parts
parts-code rate w =
    let k = w.parts in
    let some : 0 < k = lt_of_lt_of_le (lit< tt) w.least in
    let product : mul64 rate many ≡ round binary64 false (k * 2048) (2048 * 1) =
    mul_at binary64 rate many k 2048 2048 1 (positive_of_value rate k 2048 w.is some) (positive_of_value many 2048 1 many_is (lit< tt)) (lit< tt) (lit< tt) w.is many_is in
    ap (to_unsigned 64) (product ∙ round_same binary64 false (k * 2048) (2048 * 1) k 1 (lit< tt) (lit< tt) (mul_assoc k 2048 1) ∙ as_integer k)
    ∙ (unsigned_back binary64 64 k (in_float_lem k w.most) (omega (arith, w.most))).1

-- ---- divided before it is multiplied
divided-first : (n k : ℕ) → 0 < k → n / k * 2048000 + n % k * 2048000 / k ≡ n * 2048000 / k
divided-first n k h =
    let apart : n * 2048000 ≡ n % k * 2048000 + n / k * 2048000 * k =
    ap (λ (z : ℕ). z * 2048000) (sym (mod-add-div' n k)) ∙ add-mul (n % k) (n / k * k) 2048000 ∙ ap (λ (z : ℕ). n % k * 2048000 + z) (mul_right_comm (n / k) k 2048000) in
    omega (arith, ap (λ (z : ℕ). z / k) apart ∙ add-mul-div_right (n % k * 2048000) (n / k * 2048000) h)

-- ---- one fraction for another
crossed : (n a d k : ℕ) → 0 < d → a * 2048 ≡ k * d → n * 1000 * d / a ≡ n * 2048000 / k
crossed n a d k D e =
    sym (mul-div-mul_right {m = 2048} (n * 1000 * d) a (lit< tt))
    ∙ ap (λ (z : ℕ). n * 1000 * d * 2048 / z) e
    ∙ ap (λ (z : ℕ). z / (k * d)) (mul_right_comm (n * 1000) d 2048 ∙ ap (λ (z : ℕ). z * d) (mul_assoc n 1000 2048))
    ∙ mul-div-mul_right {m = d} (n * 2048000) k D

-- THE LAW
exact : (n : ℕ) (rate : Float) (w : InParts rate) → lawful_rate rate ≡ true → n / w.parts * 2048000 + n % w.parts * 2048000 / w.parts ≡ milliseconds_of n rate
unfolding milliseconds_of
exact n rate w l =
    took (lawful_rate rate) (n * 1000 * den rate / num rate) 0 _ l
    (divided-first n w.parts (lt_of_lt_of_le (lit< tt) w.least)
    ∙ sym (crossed n (num rate) (den rate) w.parts (den_pos rate) (value→cross rate w.parts 2048 w.is)))

-- ---- what the code has of it, step by step
pub record Steps (n : ℕ) (rate : Float) (k : ℕ) : Type 0 where
  pub some : 0 < k
  pub few : n % k * 2048000 < 2 ^ 64
  pub word : n / k * 2048000 + n % k * 2048000 / k < 2 ^ 64
  pub is : n / k * 2048000 + n % k * 2048000 / k ≡ milliseconds_of n rate

under : (n k : ℕ) → n < 2 ^ 64 → 16384000 ≤ k → n * 2048000 / k < 2 ^ 64
under n k N K = (div-lt_iff_lt-mul {k = k} {x = n * 2048000} {y = 2 ^ 64} (lt_of_lt_of_le (lit< tt) K)).1 (omega (arith, N, mul-le-mul_left (2 ^ 64) K))

small : (n k : ℕ) → 0 < k → k ≤ 786432000 → n % k * 2048000 < 2 ^ 64
small n k some most = omega (arith, mod-lt n some)

pub steps : (n : ℕ) (rate : Float) → n < 2 ^ 64 → T (fits binary32 rate) → lawful_rate rate ≡ true → Steps n rate (to_unsigned 64 (mul64 rate many))
steps n rate N f l =
    let w = rate-parts rate f (subst T (sym l) tt) in
    let some : 0 < w.parts = lt_of_lt_of_le (lit< tt) w.least in
    subst (Steps n rate) (sym (parts-code rate w))
    (record {
      some = some;
      few = small n w.parts some w.most;
      word = subst (λ (z : ℕ). z < 2 ^ 64) (sym (divided-first n w.parts some)) (under n w.parts N w.least);
      is = exact n rate w l;
    })
