-- `particle` meets its contract: part by part.
use Rattle.oracle_replay.proofs.numbers.particle.Goals as goal

pub returns : goal.returns
returns c = rw (c.retired.ensures, c.wide-3.ensures, c.wide-2.ensures, c.wide.ensures, c.single-5.ensures, c.single-4.ensures, c.single-3.ensures, c.single-2.ensures, c.single.ensures, c.bits.ensures, c.slot.ensures, c.flag.ensures)
