-- `flag_at` meets its contract: the callee's answer.
use Rattle.big_endian.proofs.numbers.flag_at.Goals as goal

pub returns : goal.returns
returns c = rw c.byte.ensures
