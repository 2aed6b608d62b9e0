-- `same_bits` meets its contract: the two patterns.
use Rattle.engine_samples.proofs.waiting.same_bits.Goals as goal

pub returns : goal.returns
returns c = rw (c.bits-2.ensures, c.bits.ensures)
