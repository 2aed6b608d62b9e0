-- `hash` meets its contract: the callees' answers, put together.
use Rattle.state.specs.Tallies.{hash_of}
use Rattle.state.proofs.tallies.hash.Goals as goal

pub returns : goal.returns
unfolding hash_of
returns c = rw (c.mix.ensures, c.word-word.ensures, c.bits-bits.ensures, c.rotate_left-turned.ensures)
