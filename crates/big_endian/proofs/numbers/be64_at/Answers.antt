-- `be64_at` meets its contract: the callees' answers, put together; past the end it is 0.
use Rattle.big_endian.specs.Numbers.{be64}
use Rattle.big_endian.proofs.Past.{past64}
use borrow.Author.Rules.{rules}
use Rattle.big_endian.proofs.numbers.be64_at.Goals as goal

pub returns-then-i-s : goal.returns-then-i-s
unfolding be64
returns-then-i-s c = search rules

pub returns : goal.returns
returns c = past64 c.args.s.now _ c.if-i-s.false
