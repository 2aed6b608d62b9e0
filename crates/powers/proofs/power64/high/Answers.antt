-- `high` meets its contract: `Halves.high_is` and `Halves.high_le`.
use Rattle.std.proofs.Common.{arith}
use Rattle.powers.specs.Exp64.{high}
use Rattle.floats_laws.proofs.Halves.{Bounds, bounds, high_is, high_le}
use Rattle.powers.proofs.power64.high.Goals as goal

bnd : (c : goal.Start) → Bounds c.args.a c.args.b
bnd c = bounds c.args.a c.args.b (omega arith) (omega arith)

pub overflow_mul-m1 : goal.overflow_mul-m1
overflow_mul-m1 c = let b = bnd c in omega arith

pub overflow_mul-m1-2 : goal.overflow_mul-m1-2
overflow_mul-m1-2 c = let b = bnd c in omega arith

pub overflow_add-m1 : goal.overflow_add-m1
overflow_add-m1 c = let b = bnd c in omega arith

pub overflow_mul-m2 : goal.overflow_mul-m2
overflow_mul-m2 c = let b = bnd c in omega arith

pub overflow_add-m2 : goal.overflow_add-m2
overflow_add-m2 c = let b = bnd c in omega arith

pub overflow_mul-result : goal.overflow_mul-result
overflow_mul-result c = let b = bnd c in omega arith

pub overflow_add-result : goal.overflow_add-result
overflow_add-result c = let b = bnd c in omega arith

pub overflow_add-result-2 : goal.overflow_add-result-2
overflow_add-result-2 c = let b = bnd c in omega arith

pub returns : goal.returns
unfolding high
returns c = (high_is c.args.a c.args.b, rw (high_is c.args.a c.args.b) (high_le c.args.a c.args.b (omega arith)))
