-- `free_root` meets its contract: the callees' answers, put together.
use Rattle.births.specs.Voices.{free_root_of}
use Rattle.births.proofs.voices.free_root.Goals as goal

pub returns : goal.returns
unfolding free_root_of
returns c = rw (c.pow8.ensures, c.random.ensures, c.to_u64-phrase.ensures, c.floor.ensures)
