-- `placed_at` meets its contract: a field from 1 to 254 is `normal`'s, any other `extreme`'s.
use Rattle.std.proofs.Common.{◌≡◌, ℕ, ◌+◌, ◌-◌, ◌/◌, ◌%◌, ◌^◌, ◌<◌, ◌≤◌, refl, ◌∙◌, arith}
use lib.Ieee.{binary32, of_bits}
use Rattle.powers.specs.Placed.{placed32}
use Rattle.powers.specs.Power.{mantissa, power_bits}
use Rattle.powers.proofs.PowerTable.{mantissa-low}
use Rattle.powers.proofs.power.placed_at.Goals as goal

-- the difference from 0x41380001 that wraps tells the fields from 1 to 254 from all others
inside : (n : ℕ) → n < 2 ^ 64 → (n + (2 ^ 64 - 0x41380001)) % 2 ^ 64 < 254 → 0x41380001 + (n + (2 ^ 64 - 0x41380001)) % 2 ^ 64 ≡ n
inside n b l = omega arith

outside : (n : ℕ) → n < 2 ^ 64 → 254 ≤ (n + (2 ^ 64 - 0x41380001)) % 2 ^ 64 → 0x41380001 ≤ n → 0x413800ff ≤ n
outside n b l g = omega arith

at : (n w m : ℕ) → n ≡ w / 4294967296 → m ≡ mantissa (w % 4294967296) → of_bits binary32 (placed32 n m) ≡ of_bits binary32 (power_bits w)
unfolding power_bits
at n w m p q = rw (p, q)

pub extreme-requires : goal.extreme-requires
extreme-requires c =
    let w = c.args.w in
    let m = c.mantissa-m in
    (outside (w / 4294967296) (omega arith) c.if-k-lt254.false, rw m.ensures.0 (mantissa-low (w % 4294967296) (omega arith)), m.ensures.1)

pub returns-then-k-lt254 : goal.returns-then-k-lt254
returns-then-k-lt254 c =
    let w = c.args.w in
    let m = c.mantissa-m in
    c.normal.ensures ∙ at (0x41380001 + (w / 4294967296 + (2 ^ 64 - 0x41380001)) % 2 ^ 64) w m.result (inside (w / 4294967296) (omega arith) c.if-k-lt254.true) m.ensures.0

pub returns-else-k-lt254 : goal.returns-else-k-lt254
returns-else-k-lt254 c =
    let w = c.args.w in
    let m = c.mantissa-m in
    c.extreme.ensures ∙ at (w / 4294967296) w m.result refl m.ensures.0
