-- `bent` meets its contract: the product fits a word, and what is below 2^26, over 2^26, makes it no larger.
use Rattle.std.proofs.Common.{refl, le_of_lt, mul-le-mul_right, mul_comm, arith}
use native.Mathlib.Nat.{div-le_of_le-mul}
use Rattle.floats.proofs.Words.{product-fits}
use Rattle.powers.proofs.power.bent.Goals as goal

pub overflow_mul-result : goal.overflow_mul-result
overflow_mul-result c = record { fits = product-fits 32 32 {a = c.args.b} {b = c.args.r} (omega (arith, c.requires.0)) (omega (arith, c.requires.1)) }

pub returns : goal.returns
returns c = (refl, div-le_of_le-mul 67108864 (rw (mul_comm c.args.b c.args.r) (mul-le-mul_right c.args.b (le_of_lt c.requires.1))))
