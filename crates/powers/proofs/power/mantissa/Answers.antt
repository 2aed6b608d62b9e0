-- `mantissa` meets its contract: the callees' answers, put together; by `PowerTable` they fit.
use Rattle.std.proofs.Common.{◌≡◌, ℕ, ◌+◌, ◌*◌, ◌/◌, ◌%◌, ◌<◌, arith}
use Rattle.powers.specs.PowerCells.{power_start, power_slope, power_bend}
use Rattle.powers.specs.Power.{mantissa}
use Rattle.powers.proofs.PowerTable.{Joined, joined, mantissa-high}
use Rattle.powers.proofs.power.mantissa.Goals as goal

is : (f t s b q p : ℕ) → t ≡ power_start (f / 67108864) → s ≡ power_slope (f / 67108864) → b ≡ power_bend (f / 67108864) → q ≡ b * (f % 67108864) / 67108864 → p ≡ f % 67108864 * (s + q) → t + p ≡ mantissa f
unfolding mantissa
is f t s b q p T S B Q P = rw (P, Q, T, S, B)

cell-joined : (f : ℕ) → f < 4294967296 → Joined (f / 67108864)
cell-joined f h = joined (f / 67108864) (omega arith)

small : (c : goal.After-struct_known-1) → c.cell_of-p.result.slope + c.bent.result < 4294967296
small c =
    let p = c.cell_of-p in
    let j = cell-joined c.args.f c.requires in
    omega (arith, p.ensures.1, p.ensures.2, j.slope_small, j.bend_small, c.bent.ensures.1)

right : (c : goal.After-struct_known-2-1) → c.cell_of-p.result.start + c.part.result ≡ mantissa c.args.f
right c =
    let p = c.cell_of-p in
    is c.args.f p.result.start p.result.slope p.result.bend c.bent.result c.part.result p.ensures.0 p.ensures.1 p.ensures.2 c.bent.ensures.0 c.part.ensures

high : (c : goal.After-struct_known-2-1) → c.cell_of-p.result.start + c.part.result < 9223372036854775808
high c = rw (right c) (mantissa-high c.args.f c.requires)

pub bent-requires : goal.bent-requires
bent-requires c = (rw c.cell_of-p.ensures.2 (cell-joined c.args.f c.requires).bend_small, omega arith)

pub overflow_add-p : goal.overflow_add-p
overflow_add-p c = omega (arith, small c)

pub part-requires : goal.part-requires
part-requires c = (omega arith, small c)

pub overflow_add-result : goal.overflow_add-result
overflow_add-result c = omega (arith, high c)

pub returns : goal.returns
returns c = (right c, high c)
