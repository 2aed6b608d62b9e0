-- `f32_at` meets its contract: the callees' answers, put together.
use Rattle.big_endian.proofs.numbers.f32_at.Goals as goal

pub returns : goal.returns
returns c = rw (c.of_bits.ensures, c.be32_at.ensures)
