-- `f64_at` meets its contract: the callees' answers, put together.
use Rattle.big_endian.proofs.numbers.f64_at.Goals as goal

pub returns : goal.returns
returns c = rw (c.of_bits.ensures, c.be64_at.ensures)
