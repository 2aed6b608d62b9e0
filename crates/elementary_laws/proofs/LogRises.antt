-- log2 never falls as its positive argument rises, infinity included; of a finite one it lies from -149 to 128.
use mathlib.Core.Path.{◌≡◌, refl, ◌∙◌, subst}
use mathlib.Core.Logic.{inl, inr}
use mathlib.Core.Bool.{true, false}
use Prim.Native.Nat.{ℕ, zero, suc, zero-le, ◌-◌, ◌≤◌, ◌<◌}
use native.Mathlib.Nat.{eq-or-lt_of_le}
use native.Mathlib.Omega.{arith}
use lib.IntN.{pos}
use lib.Dec.{T, leb→le}
use lib.Pow.{pow_pos}
use lib.Count.{count_trailing_zeros}
use lib.Ieee.{Float, nan, inf, fin, binary32, fits, is_nan, lt, eq, le, to_bits, round, sum, add, sub, neg, mul, of_int, of_bits, of_fields, size, span, climb, units, odd}
use lib.Ieee.Positive.{positive}
use lib.Ieee.Scale.{finite}
use Rattle.floats_laws.proofs.PositiveBits.{positive-above, positive-under}
use Rattle.floats_laws.proofs.Rules.{between-finite}
use Rattle.floats_laws.proofs.ToBits.{to_bits_mono}
use Rattle.elementary.specs.Rung.{rung_of, digits_of}
use Rattle.elementary.specs.Log2.{fraction_of, joined_of, log_of, log2_of}
use Rattle.elementary.proofs.LogCells.{fraction_mono, fraction_lt}
use Rattle.elementary_laws.proofs.LogExact.{log2_infinity}
use Rattle.elementary_laws.proofs.LogRungs.{answer, along, across, upward}
use Rattle.elementary.proofs.Rungs.{Parts, parts, under}
use Rattle.elementary.proofs.Tested.{log_is, above_zero, under_infinity, rises-to}
use Rattle.floats_laws.proofs.Rising.{nought, past-highest}

-- ---- over patterns
log_answer : (b : ℕ) → log_of b ≡ answer (rung_of b) (fraction_of (digits_of b - 8388608))
unfolding log_of joined_of
log_answer b = refl

past_lt : {b : ℕ} → Parts b → digits_of b - 8388608 < 8388608
past_lt s = omega (arith, s.from, s.to)

pub patterns_rise : (b c : ℕ) → 0 < b → b ≤ c → c < 2139095040 → T (le (log_of b) (log_of c))
patterns_rise b c p h k =
    let s = parts b p (omega arith) in
    let t = parts c (omega arith) k in
    let u = under b c p h k in
    let f = fraction_lt (digits_of b - 8388608) (past_lt s) in
    let g = fraction_lt (digits_of c - 8388608) (past_lt t) in
    rw (log_answer b, log_answer c)
    (elim (eq-or-lt_of_le u.rungs) [
      | inl e ↦ subst (λ (j : ℕ). T (le (answer (rung_of b) (fraction_of (digits_of b - 8388608))) (answer j (fraction_of (digits_of c - 8388608))))) e
          (along (rung_of b) (fraction_of (digits_of b - 8388608)) (fraction_of (digits_of c - 8388608)) s.few (fraction_mono (less (digits_of b) (digits_of c) (u.digits e)) (past_lt t)) g)
      | inr l ↦ across (rung_of b) (rung_of c) (fraction_of (digits_of b - 8388608)) (fraction_of (digits_of c - 8388608)) l t.few f g
    ])
  where
    less : (m n : ℕ) → m ≤ n → m - 8388608 ≤ n - 8388608
    less m n h = omega arith

-- ---- bounds
abbrev pub least : Float
least = fin true 149 (pos 0)

abbrev pub most : Float
most = fin false 1 (pos 7)

first-is : answer 0 0 ≡ least
unfolding sub add neg sum round size span climb units odd count_trailing_zeros of_int of_bits of_fields mul
first-is = refl

last-is : answer 277 0 ≡ most
unfolding sub add neg sum round size span climb units odd count_trailing_zeros of_int of_bits of_fields mul
last-is = refl

from_first : (j f : ℕ) → j < 277 → f < 16777216 → T (le (answer 0 0) (answer j f))
from_first zero f h k = along 0 0 f h zero-le k
from_first (suc j) f h k = across 0 (suc j) 0 f (omega arith) h (pow_pos 24) k

pub record Within (x : Float) : Type 0 where
  pub from : T (le least (log2_of x))
  pub to : T (le (log2_of x) most)
  pub finite : T (finite (log2_of x))

within : (x : Float) → T (fits binary32 x) → T (positive x) → Within x
within x f p =
    let b = to_bits binary32 x in
    let s = parts b (positive-above binary32 x f p) (positive-under binary32 x f p) in
    let k = fraction_lt (digits_of b - 8388608) (past_lt s) in
    let e : log2_of x ≡ answer (rung_of b) (fraction_of (digits_of b - 8388608)) = log_is x p ∙ log_answer b in
    let lo : T (le least (log2_of x)) = rw (e, ← first-is) (from_first (rung_of b) (fraction_of (digits_of b - 8388608)) s.few k) in
    let hi : T (le (log2_of x) most) = rw (e, ← last-is) (upward (rung_of b) 277 (fraction_of (digits_of b - 8388608)) s.few (leb→le 278 278 tt) k) in
    record { from = lo; to = hi; finite = between-finite binary32 least (log2_of x) most tt tt lo hi }

-- of a finite number above zero the logarithm is finite, and lies from -149 to 128
pub log2-within : (x : Float) → T (fits binary32 x) → T (lt nought x) → T (finite x) → Within x
log2-within x f h k = elim (above_zero x h) [ inl p ↦ within x f p | inr e ↦ absurd (subst (λ (y : Float). T (finite y)) e k) ]

-- ---- THE CLAIM
finite_number : (x : Float) → T (finite x) → is_nan x ≡ false
unfolding is_nan
finite_number nan h = absurd h
finite_number (inf s) h = refl
finite_number (fin s m e) h = refl

pub log2-rises : (x y : Float) → T (fits binary32 x) → T (fits binary32 y) → T (lt nought x) → T (le x y) → T (le (log2_of x) (log2_of y))
unfolding le lt eq
log2-rises x y f g h k = elim (above_zero x h) [
  | inr e ↦ rw (past-highest y (subst (λ (z : Float). T (le z y)) e k), e, log2_infinity) tt
  | inl p ↦ elim (rises-to x y p k) [
    | inr e ↦ rw (e, log2_infinity) (under_infinity (log2_of x) (finite_number (log2_of x) (within x f p).finite))
    | inl q ↦ rw (log_is x p, log_is y q) (patterns_rise (to_bits binary32 x) (to_bits binary32 y) (positive-above binary32 x f p) (to_bits_mono binary32 x y p q k) (positive-under binary32 y g q))
  ]
]
