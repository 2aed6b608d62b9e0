-- The whole number closest to a fraction, a tie to the even one: no other is nearer, and another as near means a tie.
use Prim.Native.Nat.{ℕ, zero, suc, ◌+◌, ◌*◌, ◌/◌, ◌%◌, ◌≤◌, ◌<◌}
use native.Mathlib.Nat.{le_trans, le_of_eq, le_antisymm, eq-or-lt_of_le, one-mul, add-mul, suc-mul, mul-le-mul_right, div-add-mod', mod-lt}
use native.Mathlib.Omega.{arith}
use mathlib.Core.Path.{◌≡◌, refl, sym, ap, ◌∙◌, subst}
use mathlib.Core.Logic.{◌⊎◌, inl, inr}
use lib.Dec.{ltb, lit<}
use lib.Ieee.Nearest.{closest}
use borrow.Author.Tests.{ltb-true, ltb-false}
use Rattle.floats.specs.Convert.{apart}
use Rattle.floats.proofs.Narrow.{closest_below, closest_tie, closest_above}
use Rattle.sequences.specs.Pick.{by-case}

pub eq_or_lt : (a b : ℕ) → (a ≡ b) ⊎ ((a < b) ⊎ (b < a))
eq_or_lt a b = by-case (ltb a b) (λ e. inr (inl (ltb-true _ _ e))) (λ e. elim (eq-or-lt_of_le (ltb-false a b e)) [ inl g ↦ inl (sym g) | inr g ↦ inr (inr g) ])

-- ---- the whole number closest to n / u, and even at a tie
pub record Close (n u q : ℕ) : Type 0 where
  pub up : 2 * n ≤ 2 * (q * u) + u
  pub low : 2 * (q * u) ≤ 2 * n + u
  pub up_even : 2 * n ≡ 2 * (q * u) + u → q % 2 ≡ 0
  pub low_even : 2 * (q * u) ≡ 2 * n + u → q % 2 ≡ 0

module _ (n u : ℕ) (U : 0 < u) where
  abbrev w : ℕ
  w = n / u

  abbrev r : ℕ
  r = n % u

  whole : w * u + r ≡ n
  whole = div-add-mod' n u

  left : r < u
  left = mod-lt n U

  stays : r * 2 < u → Close n u w
  stays h = record {
    up = omega (arith, whole);
    low = omega (arith, whole);
    up_even = λ e. absurd (omega (arith, whole));
    low_even = λ e. absurd (omega (arith, whole));
  }

  steps_up : u < r * 2 → Close n u (w + 1)
  steps_up h = record {
    up = omega (arith, whole, left, more);
    low = omega (arith, whole, more);
    up_even = λ e. absurd (omega (arith, whole, left, more));
    low_even = λ e. absurd (omega (arith, whole, more));
  }
    where
      more : (w + 1) * u ≡ w * u + u
      more = add-mul w 1 u ∙ ap (λ (z : ℕ). w * u + z) (one-mul u)

  meets : (p : ℕ) → r * 2 ≡ u → p ≡ w % 2 → p < 2 → Close n u (w + p)
  meets zero h e l = record {
    up = omega (arith, whole, more);
    low = omega (arith, whole, more);
    up_even = λ _. omega arith;
    low_even = λ _. omega arith;
  }
    where
      more : (w + 0) * u ≡ w * u
      more = ap (λ (z : ℕ). z * u) (omega arith)
  meets (suc p) h e l = record {
    up = omega (arith, whole, more);
    low = omega (arith, whole, more);
    up_even = λ _. omega arith;
    low_even = λ _. omega arith;
  }
    where
      more : (w + suc p) * u ≡ w * u + u
      more = ap (λ (z : ℕ). z * u) (let g : suc p ≡ 1 = omega arith in omega arith) ∙ add-mul w 1 u ∙ ap (λ (z : ℕ). w * u + z) (one-mul u)

  pub close : Close n u (closest n u)
  close =
      by-case (ltb (r * 2) u) (λ e. let h = ltb-true _ _ e in subst (Close n u) (closest_below n u h) (stays h))
      (λ e.
      by-case (ltb u (r * 2)) (λ g. let h = ltb-true _ _ g in subst (Close n u) (closest_above n u h) (steps_up h))
      (λ g. let h : r * 2 ≡ u = le_antisymm (ltb-false _ _ g) (ltb-false _ _ e) in subst (Close n u) (closest_tie n u h) (meets (w % 2) h refl (mod-lt w (lit< tt)))))

-- ---- no other multiple of u is nearer, and one as near means a tie
module _ (n u q t : ℕ) (U : 0 < u) (c : Close n u q) where
  further : (t : ℕ) → t < q → t * u + u ≤ q * u
  further t h = le_trans (le_of_eq (sym (suc-mul t u))) (mul-le-mul_right u h)

  nearer : (t : ℕ) → q < t → q * u + u ≤ t * u
  nearer t h = le_trans (le_of_eq (sym (suc-mul q u))) (mul-le-mul_right u h)

  pub close_least : apart n (q * u) ≤ apart n (t * u)
  close_least = elim (eq_or_lt q t) [
    | inl e ↦ le_of_eq (ap (λ (z : ℕ). apart n (z * u)) e)
    | inr (inl l) ↦ omega (arith, nearer t l, c.up, c.low)
    | inr (inr g) ↦ omega (arith, further t g, c.up, c.low)
  ]

  pub close_tie : apart n (q * u) ≡ apart n (t * u) → (t ≡ q) ⊎ (q % 2 ≡ 0)
  close_tie h = elim (eq_or_lt q t) [
    | inl e ↦ inl (sym e)
    | inr (inl l) ↦ inr (c.up_even (omega (arith, nearer t l, c.up, c.low)))
    | inr (inr g) ↦ inr (c.low_even (omega (arith, further t g, c.up, c.low)))
  ]
