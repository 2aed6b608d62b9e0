-- `told` meets its contract: a refusal's number fits in 32 bits.
use Rattle.std.proofs.Common.{arith}
use Rattle.host.proofs.Small.{number_small}
use Rattle.host.proofs.masks.told.Goals as goal

pub overflow_cast-result : goal.overflow_cast-result
overflow_cast-result c = let h = number_small c.in-Err.refusal in omega (arith, h, c.from.ensures)
