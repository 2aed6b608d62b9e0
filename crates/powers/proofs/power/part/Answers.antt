-- `part` meets its contract: the product fits a word.
use Rattle.std.proofs.Common.{refl, arith}
use Rattle.floats.proofs.Words.{product-fits}
use Rattle.powers.proofs.power.part.Goals as goal

pub overflow_mul-result : goal.overflow_mul-result
overflow_mul-result c = record { fits = product-fits 32 32 {a = c.args.r} {b = c.args.q} (omega (arith, c.requires.0)) (omega (arith, c.requires.1)) }

pub returns : goal.returns
returns c = refl
