-- `counts` meets its contract: part by part.
use Rattle.oracle_replay.proofs.numbers.counts.Goals as goal

pub returns : goal.returns
returns c = rw (c.single.ensures, c.flag.ensures, c.slot.ensures, c.bits-2.ensures, c.bits.ensures)
