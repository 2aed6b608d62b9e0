-- `config` meets its contract: part by part.
use Rattle.oracle_replay.proofs.numbers.config.Goals as goal

pub returns : goal.returns
returns c = rw (c.single-6.ensures, c.single-5.ensures, c.single-4.ensures, c.flag-3.ensures, c.flag-2.ensures, c.single-3.ensures, c.single-2.ensures, c.single.ensures, c.direction.ensures, c.shape.ensures, c.flag.ensures)
