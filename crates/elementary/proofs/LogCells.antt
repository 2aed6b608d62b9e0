-- The cells of log2: one test of the table, and from it the bounds of the integer steps and that they keep the order.
use mathlib.Core.Path.{◌≡◌, sym, subst, subst⁻¹}
use mathlib.Core.Logic.{inl, inr}
use mathlib.Core.Bool.{Bool, ◌&&◌, cond}
use Prim.Native.Nat.{ℕ, zero, suc, ◌+◌, ◌-◌, ◌*◌, ◌/◌, ◌%◌, ◌≤◌, ◌<◌}
use native.Mathlib.Nat.{le_of_eq, le_trans, eq-or-lt_of_le, mul-le-mul, mul-le-mul_left, mul-le-mul_right, le_of_suc-le-suc, not-suc-le-zero, one-mul}
use native.Mathlib.Omega.{arith}
use lib.Dec.{T, leb, ltb, leb→le}
use lib.Ieee.Fits.{and_l, and_r}
use borrow.Author.Tests.{lt-ltb}
use Rattle.sequences.specs.All.{all, all-at}
use Rattle.elementary.specs.LogCells.{log_top, log_tops, log_slope, log_slopes, log_bend, log_bends}
use Rattle.elementary.specs.Log2.{fall_of, cell_of, fraction_of}
use Rattle.floats_laws.proofs.Naturals.{sum-rises}

-- ---- the rule of the table: a cell starts at 0 or above, and ends where the next starts or below; the last ends below 1
unfoldable starts : ℕ → Bool
starts i = leb (fall_of i 131071) (log_top i)

unfoldable ends : ℕ → Bool
ends i = leb (log_top i) (cond (ltb i 63) (cell_of (suc i) 131071) 4611686018427387903)

unfoldable joins : ℕ → Bool
joins i = starts i && ends i

all_join : T (all joins 64)
unfolding joins starts ends cell_of fall_of log_top log_tops log_slope log_slopes log_bend log_bends
all_join = tt

start : (i : ℕ) → i < 64 → fall_of i 131071 ≤ log_top i
unfolding joins starts
start i h = leb→le _ _ (and_l (starts i) (ends i) (all-at joins 64 all_join i h))

end : (i : ℕ) → i < 64 → log_top i ≤ cond (ltb i 63) (cell_of (suc i) 131071) 4611686018427387903
unfolding joins ends
end i h = leb→le _ _ (and_r (starts i) (ends i) (all-at joins 64 all_join i h))

meet : (i : ℕ) → i < 63 → log_top i ≤ cell_of (suc i) 131071
meet i h = subst (λ (b : Bool). log_top i ≤ cond b (cell_of (suc i) 131071) 4611686018427387903) (lt-ltb i 63 h) (end i (next i h))
  where
    next : (i : ℕ) → i < 63 → i < 64
    next i h = omega arith

-- ---- order in a cell and from cell to cell
fall_mono : (i : ℕ) {t u : ℕ} → t ≤ u → fall_of i t ≤ fall_of i u
unfolding fall_of
fall_mono i h = mul-le-mul h (sum-rises (log_slope i) (mul-le-mul_left (log_bend i) h))

cell_mono : (i : ℕ) {t u : ℕ} → t ≤ u → cell_of i u ≤ cell_of i t
unfolding cell_of
cell_mono i h = take (log_top i) (fall_mono i h)
  where
    take : (k : ℕ) {a b : ℕ} → a ≤ b → k - b ≤ k - a
    take k h = omega arith

cell-top : (i t : ℕ) → cell_of i t ≤ log_top i
unfolding cell_of
cell-top i t = less (log_top i) (fall_of i t)
  where
    less : (a b : ℕ) → a - b ≤ a
    less a b = omega arith

chain : (i j : ℕ) → i < j → j < 64 → log_top i ≤ cell_of j 131071
chain i zero h k = absurd (not-suc-le-zero h)
chain i (suc j) h k = elim (eq-or-lt_of_le (le_of_suc-le-suc h)) [
  | inl e ↦ subst⁻¹ (λ (n : ℕ). log_top n ≤ cell_of (suc j) 131071) e (meet j (le_of_suc-le-suc k))
  | inr l ↦ le_trans (chain i j l (before j k)) (le_trans (cell-top j 131071) (meet j (le_of_suc-le-suc k)))
]
  where
    before : (j : ℕ) → suc j < 64 → j < 64
    before j h = omega arith

pub top_le : (i : ℕ) → i < 64 → log_top i ≤ 4611686018427387903
top_le i h = elim (eq-or-lt_of_le (le_of_suc-le-suc h)) [
  | inl e ↦ subst⁻¹ (λ (n : ℕ). log_top n ≤ 4611686018427387903) e last
  | inr l ↦ le_trans (chain i 63 l (leb→le 64 64 tt)) (le_trans (cell-top 63 131071) last)
]
  where
    last : log_top 63 ≤ 4611686018427387903
    last = end 63 (leb→le 64 64 tt)

-- ---- what the code's products and sums stay below: each is at most the whole fall, and that is at most the top
pub fall_le : (i t : ℕ) → i < 64 → t ≤ 131071 → fall_of i t ≤ log_top i
fall_le i t h k = le_trans (fall_mono i k) (start i h)

pub inner_le : (i t : ℕ) → i < 64 → t ≤ 131071 → log_slope i + log_bend i * t ≤ log_top i
unfolding fall_of
inner_le i t h k = le_trans (le_trans (sum-rises (log_slope i) (mul-le-mul_left (log_bend i) k)) (times 131071 (log_slope i + log_bend i * 131071) (leb→le 1 131071 tt))) (start i h)
  where
    times : (a b : ℕ) → 1 ≤ a → b ≤ a * b
    times a b h = le_trans (le_of_eq (sym (one-mul b))) (mul-le-mul_right b h)

pub bend_le : (i t : ℕ) → i < 64 → t ≤ 131071 → log_bend i * t ≤ log_top i
bend_le i t h k = le_trans (more (log_bend i * t) (log_slope i)) (inner_le i t h k)
  where
    more : (a b : ℕ) → a ≤ b + a
    more a b = omega arith

-- ---- the fraction of a logarithm
pub cell : (p : ℕ) → p < 8388608 → p / 131072 < 64
cell p h = omega arith

pub back : (p : ℕ) → 131071 - p % 131072 ≤ 131071
back p = omega arith

cells_mono : {p q : ℕ} → p ≤ q → q < 8388608 → cell_of (p / 131072) (131071 - p % 131072) ≤ cell_of (q / 131072) (131071 - q % 131072)
cells_mono {p} {q} h k =
    elim (eq-or-lt_of_le (cells_le p q h)) [
      | inl e ↦ subst (λ (i : ℕ). cell_of (p / 131072) (131071 - p % 131072) ≤ cell_of i (131071 - q % 131072)) e (cell_mono (p / 131072) (rests_le p q h e))
      | inr l ↦ le_trans (cell-top (p / 131072) _) (le_trans (chain (p / 131072) (q / 131072) l (cell q k)) (cell_mono (q / 131072) (back q)))
    ]
  where
    cells_le : (p q : ℕ) → p ≤ q → p / 131072 ≤ q / 131072
    cells_le p q h = omega arith

    rests_le : (p q : ℕ) → p ≤ q → p / 131072 ≡ q / 131072 → 131071 - q % 131072 ≤ 131071 - p % 131072
    rests_le p q h e = omega arith

pub fraction_mono : {p q : ℕ} → p ≤ q → q < 8388608 → fraction_of p ≤ fraction_of q
unfolding fraction_of
fraction_mono h k = cut _ _ (cells_mono h k)
  where
    cut : (x y : ℕ) → x ≤ y → x / 274877906944 ≤ y / 274877906944
    cut x y h = omega arith

pub fraction_lt : (p : ℕ) → p < 8388608 → fraction_of p < 16777216
unfolding fraction_of
fraction_lt p h = cut _ (le_trans (cell-top (p / 131072) _) (top_le (p / 131072) (cell p h)))
  where
    cut : (x : ℕ) → x ≤ 4611686018427387903 → x / 274877906944 < 16777216
    cut x h = omega arith
