-- Bounds by multiples of 2^-24 in f32: what is at most k / 2^24, k at most 2^24, stays so when it is rounded, and what is at most 1 + 2^-24 is rounded to 1 at most.
use Prim.Native.Nat.{ℕ, ◌+◌, ◌*◌, ◌^◌, ◌≤◌, ◌<◌}
use native.Mathlib.Nat.{le_trans, le_of_eq, mul-one, mul-le-mul_left, eq-or-lt_of_le}
use mathlib.Core.Path.{◌≡◌, refl, sym, subst}
use mathlib.Core.Logic.{inl, inr}
use mathlib.Core.Bool.{true, false, true≢false}
use lib.Dec.{T}
use lib.Pow.{pow_pos}
use lib.Ieee.{Float, nan, inf, fin, binary32, up, down, round, lt, le, eq}
use lib.Ieee as Ieee
use lib.Ieee.Exact.{HasValue}
use lib.Ieee.Fits.{down_pos}
use lib.Ieee.Order.{round_mono}
use Rattle.floats_laws.proofs.Mag.{Upto, le_of, within-upto}
use Rattle.floats_laws.proofs.Units.{one as i}
use Rattle.floats_laws.proofs.Fractions.{held, less}

-- x has no sign, and is at most a / c
abbrev pub AtMost : Float → ℕ → ℕ → Type 0
AtMost nan a c = ⊥
AtMost (inf s) a c = ⊥
AtMost (fin true m e) a c = ⊥
AtMost (fin false m e) a c = m * up e * c ≤ a * down e

one-is : round binary32 false (2 ^ 24) (2 ^ 24) ≡ i
unfolding round Ieee.units Ieee.odd Ieee.size Ieee.span Ieee.climb
one-is = refl

-- a tie, which goes to the even one
past_one : round binary32 false (2 ^ 24 + 1) (2 ^ 24) ≡ i
unfolding round Ieee.units Ieee.odd Ieee.size Ieee.span Ieee.climb
past_one = refl

pub to_one : (a b : ℕ) → 0 < b → a * 2 ^ 24 ≤ (2 ^ 24 + 1) * b → T (le (round binary32 false a b) i)
to_one a b B h = subst (λ (x : Float). T (le (round binary32 false a b) x)) past_one (round_mono binary32 a b (2 ^ 24 + 1) (2 ^ 24) B (pow_pos 24) h)

-- ---- a multiple of 2^-24 of few enough digits is a float
up_to : (j k : ℕ) → ((k ≡ 2 ^ 24) → HasValue (round binary32 false k (2 ^ j)) false k (2 ^ j)) → ((k < 2 ^ 24) → HasValue (round binary32 false k (2 ^ j)) false k (2 ^ j))
    → k ≤ 2 ^ 24 → HasValue (round binary32 false k (2 ^ j)) false k (2 ^ j)
up_to j k p q h = elim (eq-or-lt_of_le h) [ inl e ↦ p e | inr l ↦ q l ]

pub multiple_24 : (k : ℕ) → k ≤ 2 ^ 24 → HasValue (round binary32 false k (2 ^ 24)) false k (2 ^ 24)
multiple_24 k = up_to 24 k (λ e. rw (e, one-is) (refl, refl)) (held binary32 false 125 24 k refl)

-- ---- what is at most such a multiple is so after rounding
bounded : (x y : Float) (k c : ℕ) → T (le x y) → HasValue y false k c → Upto x k → AtMost x k c
unfolding le lt eq
bounded nan y k c h v p = absurd p
bounded (inf s) y k c h v p = absurd p
bounded (fin true m e) y k c h v p = absurd p
bounded (fin false m e) nan k c h v p = absurd v
bounded (fin false m e) (inf t) k c h v p = absurd v
bounded (fin false m e) (fin true n d) k c h v p = absurd (true≢false v.0)
bounded (fin false m e) (fin false n d) k c h v p = less (m * up e) (down e) (n * up d) (down d) k c (down_pos d) (le_of (m * up e * down d) (n * up d * down e) h) v.1

pub round-at_most : (a b k c : ℕ) → 0 < b → 0 < c → k ≤ 2 ^ 24 → a * c ≤ k * b → HasValue (round binary32 false k c) false k c → AtMost (round binary32 false a b) k c
round-at_most a b k c B C K h v =
    bounded (round binary32 false a b) (round binary32 false k c) k c (round_mono binary32 a b k c B C h) v
    (within-upto binary32 a b k B K (le_trans (le_trans (le_of_eq (sym (mul-one a))) (mul-le-mul_left a C)) h))
