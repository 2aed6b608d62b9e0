-- `up_to` meets its contract: the callee's answer.
use Rattle.big_endian.proofs.numbers.up_to.Goals as goal

pub returns : goal.returns
returns c = rw c.byte.ensures
