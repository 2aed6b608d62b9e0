-- `extreme` meets its contract: `placed-over` past the last field; below the first `placed_below`, which is 0 from 64 places off on.
use Rattle.std.proofs.Common.{◌≡◌, ℕ, ◌+◌, ◌-◌, ◌*◌, ◌/◌, ◌^◌, ◌<◌, ◌≤◌, sym, ap, ◌∙◌, lt_of_lt_of_le, le_of_lt, div-le_self, arith, pow_mono}
use native.Mathlib.Nat.{div-eq_of_lt}
use lib.Ieee.{binary32, of_bits}
use Rattle.floats.proofs.Narrow.{no_nan}
use Rattle.powers.specs.Placed.{placed32}
use Rattle.powers.proofs.PlacedAt.{placed-over, placed_below}
use Rattle.powers.proofs.power.extreme.Goals as goal

abbrev first : ℕ
first = 0x41380001

module _ (m j : ℕ) (M : m < 9223372036854775808) where
  kept : m / 2 ^ j ≤ m
  kept = div-le_self m (2 ^ j)

  under : (m / 2 ^ j + 274877906944) / 549755813888 ≤ 2139095040
  under = omega (arith, kept)

  gone : 63 < j → (m / 2 ^ j + 274877906944) / 549755813888 ≡ 0
  gone h = ap (λ (q : ℕ). (q + 274877906944) / 549755813888) (div-eq_of_lt (lt_of_lt_of_le M (pow_mono (le_of_lt h))))

last-field : (j m : ℕ) → 254 ≤ j → 4611686018427387904 ≤ m → 2139095040 ≤ j * 8388608 + (m + 274877906944) / 549755813888
last-field j m h k = omega arith

over : (n m : ℕ) → 0x413800ff ≤ n → 4611686018427387904 ≤ m → placed32 n m ≡ 2139095040
over n m h k =
    let e : n ≡ first + (n - first) = omega arith in
    ap (λ (z : ℕ). placed32 z m) e ∙ placed-over 8388608 274877906944 2139095040 first (n - first) m (last-field (n - first) m (omega arith) k)

below : (n m : ℕ) → n < first → m < 9223372036854775808 → placed32 n m ≡ (m / 2 ^ (first - n) + 274877906944) / 549755813888
below n m h k = placed_below 8388608 274877906944 2139095040 first n m (le_of_lt h) (under m (first - n) k)

pub float_from_bits-result : goal.float_from_bits-result
float_from_bits-result c = no_nan binary32 2139095040 (omega arith)

pub overflow_add-result : goal.overflow_add-result
overflow_add-result c = omega (arith, kept c.args.m (first - c.args.n) c.requires.2)

pub overflow_cast-result : goal.overflow_cast-result
overflow_cast-result c = omega (arith, kept c.args.m (first - c.args.n) c.requires.2)

pub float_from_bits-result-then-j-lt64 : goal.float_from_bits-result-then-j-lt64
float_from_bits-result-then-j-lt64 c = no_nan binary32 _ (omega (arith, kept c.args.m (first - c.args.n) c.requires.2))

pub returns-then-n-ge1094189057 : goal.returns-then-n-ge1094189057
returns-then-n-ge1094189057 c = ap (of_bits binary32) (sym (over c.args.n c.args.m (c.requires.0 c.if-n-ge1094189057.true) c.requires.1))

pub returns-then-j-lt64 : goal.returns-then-j-lt64
returns-then-j-lt64 c = ap (of_bits binary32) (sym (below c.args.n c.args.m c.if-n-ge1094189057.false c.requires.2))

pub returns-else-j-lt64 : goal.returns-else-j-lt64
returns-else-j-lt64 c =
    let n = c.args.n in
    let m = c.args.m in
    ap (of_bits binary32) (sym (below n m c.if-n-ge1094189057.false c.requires.2 ∙ gone m (first - n) c.requires.2 c.if-j-lt64.false))
