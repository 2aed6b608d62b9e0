-- `from_prepared` meets its contract: the callees' answers, put together.
use Rattle.state.specs.Make.{no_particles, no_sources, new_on}
use Rattle.state.proofs.make.from_prepared.Goals as goal

pub returns : goal.returns
unfolding new_on no_particles no_sources
returns c = rw (c.default-none.ensures, c.default-free.ensures, c.default-config.ensures, c.new_stream-3.ensures, c.new_stream-2.ensures, c.new_stream.ensures)
