-- `told` meets its contract: an answer's number fits in 32 bits.
use Rattle.std.proofs.Common.{arith}
use Rattle.host.proofs.Small.{answer_small}
use Rattle.host.proofs.write.told.Goals as goal

pub overflow_cast-result : goal.overflow_cast-result
overflow_cast-result c = let h = answer_small c.args.written.1 in omega (arith, h, c.answer_number.ensures)
