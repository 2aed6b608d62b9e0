-- The whole number nearest to a root, by squares: there is one for every number above zero and no tie, it is the count that `nearest_root` takes, and it rises.
use mathlib.Core.Path.{◌≡◌, refl, ap, subst, subst⁻¹}
use mathlib.Core.Logic.{inl, inr}
use mathlib.Core.Bool.{Bool, true, false, cond}
use Prim.Native.Nat.{ℕ, zero, suc, ◌+◌, ◌-◌, ◌*◌, ◌≤◌, ◌<◌}
use native.Mathlib.Nat.{le_trans, lt_of_lt_of_le, lt_of_le_of_lt, lt_irrefl, lt_trans, le_antisymm, mul-le-mul, mul-add, add-mul, mul-mul-mul_comm, not-suc-le-zero, eq-or-lt_of_le, mul_comm}
use native.Mathlib.Numerals.{add-one}
use native.Mathlib.Omega.{arith}
use lib.Dec.{ltb}
use borrow.Author.Tests.{ltb-true, ltb-false}
use Rattle.floats_laws.proofs.Naturals.{le_or_lt}
use Rattle.elementary.specs.Sqrt.{square, NearestRoot, middles_below, nearest_root}

-- ---- odd numbers' squares
pub odd_square : (i : ℕ) → square (2 * i + 1) ≡ 4 * (i * (i + 1)) + 1
odd_square i = omega (arith, mul-add (2 * i + 1) (2 * i) 1, add-mul (2 * i) 1 (2 * i), mul-mul-mul_comm 2 i 2 i, mul-add i i 1)

-- no tie
pub no_tie : (n r : ℕ) → square (2 * r + 1) ≡ 4 * n → ⊥
no_tie n r e = omega (arith, odd_square r)

pub squares_le : (a b : ℕ) → a ≤ b → square a ≤ square b
squares_le a b h = mul-le-mul h h

-- ---- only one
apart : (n r s : ℕ) → NearestRoot n r → NearestRoot n s → s < r → ⊥
apart n r s p q h = lt_irrefl (4 * n) (lt_trans (lt_of_lt_of_le q.above (squares_le (2 * s + 1) (2 * r - 1) (gap r s h))) p.below)
  where
    gap : (r s : ℕ) → s < r → 2 * s + 1 ≤ 2 * r - 1
    gap r s h = omega arith

pub nearest_unique : (n r s : ℕ) → NearestRoot n r → NearestRoot n s → r ≡ s
nearest_unique n r s p q = elim (le_or_lt r s) [
  | inl l ↦ elim (le_or_lt s r) [ inl g ↦ le_antisymm l g | inr g ↦ absurd (apart n s r q p g) ]
  | inr g ↦ absurd (apart n r s p q g)
]

pub nearest_mono : (n m r s : ℕ) → n ≤ m → NearestRoot n r → NearestRoot m s → r ≤ s
nearest_mono n m r s h p q = elim (le_or_lt r s) [
  | inl l ↦ l
  | inr g ↦ absurd (lt_irrefl (4 * m) (lt_of_lt_of_le (lt_of_lt_of_le q.above (squares_le (2 * s + 1) (2 * r - 1) (gap r s g))) (le_trans (less p.below) (four n m h))))
]
  where
    gap : (r s : ℕ) → s < r → 2 * s + 1 ≤ 2 * r - 1
    gap r s h = omega arith

    four : (n m : ℕ) → n ≤ m → 4 * n ≤ 4 * m
    four n m h = omega arith

    less : {a b : ℕ} → a < b → a ≤ b
    less h = omega arith

-- ---- the count
record Counted (k n r : ℕ) : Type 0 where
  most : r ≤ k
  below : 0 < r → square (2 * r - 1) < 4 * n
  above : r < k → 4 * n < square (2 * r + 1)

-- a middle at or above the root is above it
strict : (n i : ℕ) → 4 * n ≤ square (2 * i + 1) → 4 * n < square (2 * i + 1)
strict n i h = omega (arith, odd_square i)

back : (i : ℕ) → 2 * suc i - 1 ≡ 2 * i + 1
back i = omega arith

counts : (k n : ℕ) → Counted k n (middles_below k n)
unfolding middles_below
counts zero n = record { most = omega arith; below = λ h. absurd (not-suc-le-zero h); above = λ h. absurd (not-suc-le-zero h) }
counts (suc i) n = go (middles_below i n) (counts i n) (ltb (square (2 * i + 1)) (4 * n)) refl
  where
    go : (r : ℕ) → Counted i n r → (t : Bool) → ltb (square (2 * i + 1)) (4 * n) ≡ t → Counted (suc i) n (r + cond t 1 0)
    go r c true e =
        let l = ltb-true _ _ e in
        elim (eq-or-lt_of_le c.most) [
          | inl s ↦ subst⁻¹ (λ (z : ℕ). Counted (suc i) n (z + 1)) s (subst (λ (z : ℕ). Counted (suc i) n z) (one i) (record { most = omega arith; below = λ h. subst⁻¹ (λ (z : ℕ). square z < 4 * n) (back i) l; above = λ h. absurd (lt_irrefl (suc i) h) }))
          | inr g ↦ absurd (lt_irrefl (4 * n) (lt_trans (c.above g) (lt_of_le_of_lt (squares_le (2 * r + 1) (2 * i + 1) (wider r i g)) l)))
        ]
      where
        one : (i : ℕ) → suc i ≡ i + 1
        one i = omega arith

        wider : (r i : ℕ) → r < i → 2 * r + 1 ≤ 2 * i + 1
        wider r i h = omega arith
    go r c false e =
        let l = strict n i (ltb-false _ _ e) in
        subst (λ (z : ℕ). Counted (suc i) n z) (none r)
        (record {
          most = omega (arith, c.most);
          below = c.below;
          above = λ h. elim (eq-or-lt_of_le c.most) [ inl s ↦ subst⁻¹ (λ (z : ℕ). 4 * n < square (2 * z + 1)) s l | inr g ↦ c.above g ];
        })
      where
        none : (r : ℕ) → r ≡ r + 0
        none r = omega arith

pub nearest_root_lem : (n : ℕ) → 0 < n → NearestRoot n (nearest_root n)
unfolding nearest_root
nearest_root_lem n p = settle (middles_below n n) (counts n n)
  where
    full : (n : ℕ) → 4 * n < square (2 * n + 1)
    full n = omega (arith, odd_square n, mul-add n n 1, mul_le_mul_self n)
      where
        mul_le_mul_self : (n : ℕ) → n ≤ n * n
        mul_le_mul_self zero = omega arith
        mul_le_mul_self (suc n) = omega (arith, mul-add (suc n) n 1)

    settle : (r : ℕ) → Counted n n r → NearestRoot n r
    settle zero c = absurd (nothing n p (c.above p))
      where
        nothing : (n : ℕ) → 0 < n → 4 * n < square (2 * 0 + 1) → ⊥
        nothing n p h = omega arith
    settle (suc r) c = record {
      below = c.below (omega arith);
      above = elim (eq-or-lt_of_le c.most) [ inl e ↦ subst⁻¹ (λ (z : ℕ). 4 * n < square (2 * z + 1)) e (full n) | inr g ↦ c.above g ];
    }

pub root_is : (n r : ℕ) → NearestRoot n r → nearest_root n ≡ r
root_is n r p = nearest_unique n (nearest_root n) r (nearest_root_lem n (some n r p.below)) p
  where
    some : (n r : ℕ) → square (2 * r - 1) < 4 * n → 0 < n
    some n r h = omega arith

pub root_mono : (n m : ℕ) → 0 < n → n ≤ m → nearest_root n ≤ nearest_root m
root_mono n m p h = nearest_mono n m (nearest_root n) (nearest_root m) h (nearest_root_lem n p) (nearest_root_lem m (lt_of_lt_of_le p h))

-- ---- as the code tests it
pub settled : (n r : ℕ) → 1 ≤ r → r * (r - 1) < n → n ≤ r * (r + 1) → NearestRoot n r
settled n zero p h k = absurd (not-suc-le-zero p)
settled n (suc i) p h k =
    let g : suc i * i < n = subst (λ (z : ℕ). suc i * z < n) (less i) h in
    record {
      below = subst⁻¹ (λ (z : ℕ). square z < 4 * n) (back i) (omega (arith, odd_square i, mul_comm (suc i) i, ap (λ (z : ℕ). i * z) (add-one i)));
      above = omega (arith, odd_square (suc i));
    }
  where
    less : (i : ℕ) → suc i - 1 ≡ i
    less i = omega arith

-- the root of a square
pub perfect : (r : ℕ) → 0 < r → NearestRoot (square r) r
perfect r p = settled (square r) r p (omega (arith, mul-add r (r - 1) 1, ap (λ (z : ℕ). r * z) (restored r p))) (omega (arith, mul-add r r 1))
  where
    restored : (r : ℕ) → 0 < r → r - 1 + 1 ≡ r
    restored r p = omega arith
