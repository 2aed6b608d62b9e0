-- `pattern` meets its contract: `placed-over`, `placed-above` or `placed_below`, which is 0 from 64 places off on.
use Rattle.std.proofs.Common.{◌≡◌, ℕ, ◌+◌, ◌-◌, ◌*◌, ◌/◌, ◌^◌, ◌<◌, ◌≤◌, sym, ap, ◌∙◌, lt_of_lt_of_le, le_of_lt, div-le_self, arith, pow_mono}
use native.Mathlib.Nat.{div-eq_of_lt}
use Rattle.powers.specs.Placed.{placed64}
use Rattle.powers.proofs.PlacedAt.{placed-above, placed-over, placed_below}
use Rattle.powers.proofs.power64.pattern.Goals as goal

at : (n m : ℕ) → 1026 ≤ n → placed64 n m ≡ placed64 (1026 + (n - 1026)) m
at n m h = let e : n ≡ 1026 + (n - 1026) = omega arith in ap (λ (z : ℕ). placed64 z m) e

over : (n m : ℕ) → 3072 ≤ n → 9223372036854775808 ≤ m → placed64 n m ≡ 0x7ff0000000000000
over n m h k = at n m (omega arith) ∙ placed-over 4503599627370496 1024 0x7ff0000000000000 1026 (n - 1026) m (omega arith)

own : (n m : ℕ) → n < 3072 → 1026 ≤ n → m < 18446744073709551616 → placed64 n m ≡ (n - 1026) * 4503599627370496 + (m / 1024 + 1) / 2
own n m h k l = at n m k ∙ placed-above 4503599627370496 1024 0x7ff0000000000000 1026 (n - 1026) m (omega arith) ∙ near (n - 1026) m
  where
    near : (j m : ℕ) → j * 4503599627370496 + (m + 1024) / 2048 ≡ j * 4503599627370496 + (m / 1024 + 1) / 2
    near j m = omega arith

module _ (m j : ℕ) (M : m < 18446744073709551616) where
  kept : m / 2 ^ j ≤ m
  kept = div-le_self m (2 ^ j)

  under : (m / 2 ^ j + 1024) / 2048 ≤ 0x7ff0000000000000
  under = omega (arith, kept)

  gone : 64 ≤ j → (m / 2 ^ j + 1024) / 2048 ≡ 0
  gone h = ap (λ (q : ℕ). (q + 1024) / 2048) (div-eq_of_lt (lt_of_lt_of_le M (pow_mono h)))

below : (n m : ℕ) → n < 1026 → m < 18446744073709551616 → placed64 n m ≡ (m / 2 ^ (1026 - n) + 1024) / 2048
below n m h k = placed_below 4503599627370496 1024 0x7ff0000000000000 1026 n m (le_of_lt h) (under m (1026 - n) k)

halves : (q : ℕ) → (q / 1024 + 1) / 2 ≡ (q + 1024) / 2048
halves q = omega arith

pub returns-then-n-ge3072 : goal.returns-then-n-ge3072
returns-then-n-ge3072 c = sym (over c.args.n c.args.m c.if-n-ge3072.true c.requires)

pub returns-then-n-ge1026 : goal.returns-then-n-ge1026
returns-then-n-ge1026 c = sym (own c.args.n c.args.m c.if-n-ge3072.false c.if-n-ge1026.true (omega arith))

pub overflow_add-result-then-j-lt64 : goal.overflow_add-result-then-j-lt64
overflow_add-result-then-j-lt64 c = omega (arith, kept c.args.m (1026 - c.args.n) (omega arith))

pub returns-then-j-lt64 : goal.returns-then-j-lt64
returns-then-j-lt64 c =
    let n = c.args.n in
    let m = c.args.m in
    halves (m / 2 ^ (1026 - n)) ∙ sym (below n m c.if-n-ge1026.false (omega arith))

pub returns : goal.returns
returns c =
    let n = c.args.n in
    let m = c.args.m in
    sym (below n m c.if-n-ge1026.false (omega arith) ∙ gone m (1026 - n) (omega arith) c.if-j-lt64.false)
