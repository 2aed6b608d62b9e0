-- `be16_at` meets its contract: the callees' answers, put together; past the end it is 0.
use Rattle.big_endian.proofs.Past.{past16}
use Rattle.big_endian.proofs.numbers.be16_at.Goals as goal

pub returns : goal.returns
returns c = past16 c.args.s.now _ c.if-i-s.false
