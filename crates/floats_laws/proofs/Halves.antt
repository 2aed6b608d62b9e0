-- The upper half of a product, by halves of its factors. Assumes nothing.
use mathlib.Core.Path.{◌≡◌, refl, sym, ap, ◌∙◌}
use Prim.Native.Nat.{ℕ, ◌+◌, ◌*◌, ◌/◌, ◌%◌, ◌≤◌, ◌<◌}
use native.Mathlib.Nat.{le_of_lt, mul-le-mul, mul-le-mul_right, mul-add, add-mul, mul_assoc, mul_right_comm, mul-mul-mul_comm, div-le_of_le-mul, div-add-mod'}
use native.Mathlib.Omega.{arith}

upper_le : (a : ℕ) → a < 18446744073709551616 → a / 4294967296 ≤ 4294967295
upper_le a h = omega arith

lower_le : (a : ℕ) → a % 4294967296 ≤ 4294967295
lower_le a = omega arith

pub product_le : {x y : ℕ} → x ≤ 4294967295 → y ≤ 4294967295 → x * y ≤ 18446744065119617025
product_le h k = mul-le-mul h k

pub record Bounds (a b : ℕ) : Type 0 where
  pub uu : a / 4294967296 * (b / 4294967296) ≤ 18446744065119617025
  pub ul : a / 4294967296 * (b % 4294967296) ≤ 18446744065119617025
  pub lu : a % 4294967296 * (b / 4294967296) ≤ 18446744065119617025
  pub ll : a % 4294967296 * (b % 4294967296) ≤ 18446744065119617025

pub bounds : (a b : ℕ) → a < 18446744073709551616 → b < 18446744073709551616 → Bounds a b
bounds a b h k = record { uu = product_le (upper_le a h) (upper_le b k); ul = product_le (upper_le a h) (lower_le b); lu = product_le (lower_le a) (upper_le b k); ll = product_le (lower_le a) (lower_le b) }

expand : (x y u v : ℕ) → (x * 4294967296 + y) * (u * 4294967296 + v) ≡ x * u * 18446744073709551616 + (x * v + y * u) * 4294967296 + y * v
expand x y u v =
    omega (
      arith,
      add-mul (x * 4294967296) y (u * 4294967296 + v),
      mul-add (x * 4294967296) (u * 4294967296) v,
      mul-add y (u * 4294967296) v,
      mul-mul-mul_comm x 4294967296 u 4294967296,
      mul_right_comm x 4294967296 v,
      mul_assoc y u 4294967296,
    )

whole : (a b : ℕ) → a * b ≡ a / 4294967296 * (b / 4294967296) * 18446744073709551616 + (a / 4294967296 * (b % 4294967296) + a % 4294967296 * (b / 4294967296)) * 4294967296 + a % 4294967296 * (b % 4294967296)
whole a b =
    sym (ap (λ (z : ℕ). z * b) (div-add-mod' a 4294967296) ∙ refl)
    ∙ ap (λ (z : ℕ). (a / 4294967296 * 4294967296 + a % 4294967296) * z) (sym (div-add-mod' b 4294967296))
    ∙ expand (a / 4294967296) (a % 4294967296) (b / 4294967296) (b % 4294967296)

linear : (n x y z p : ℕ) → n ≡ x * 18446744073709551616 + (y + z) * 4294967296 + p → x + (y + p / 4294967296) / 4294967296 + (z + (y + p / 4294967296) % 4294967296) / 4294967296 ≡ n / 18446744073709551616
linear n x y z p h = omega arith

pub high_is : (a b : ℕ) → a / 4294967296 * (b / 4294967296) + (a / 4294967296 * (b % 4294967296) + a % 4294967296 * (b % 4294967296) / 4294967296) / 4294967296 + (a % 4294967296 * (b / 4294967296) + (a / 4294967296 * (b % 4294967296) + a % 4294967296 * (b % 4294967296) / 4294967296) % 4294967296) / 4294967296 ≡ a * b / 18446744073709551616
high_is a b = linear (a * b) (a / 4294967296 * (b / 4294967296)) (a / 4294967296 * (b % 4294967296)) (a % 4294967296 * (b / 4294967296)) (a % 4294967296 * (b % 4294967296)) (whole a b)

pub high_le : (a b : ℕ) → a < 18446744073709551616 → a * b / 18446744073709551616 ≤ b
high_le a b h = div-le_of_le-mul 18446744073709551616 (mul-le-mul_right b (le_of_lt h))
