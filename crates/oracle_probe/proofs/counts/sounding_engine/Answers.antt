-- `sounding_engine` meets its contract: the callees' answers, put together.
use Rattle.oracle_probe.specs.Counts.{sounding}
use Rattle.oracle_probe.proofs.counts.sounding_engine.Goals as goal

pub returns : goal.returns
unfolding sounding
returns c = rw (c.set_source.ensures.engine, c.new_engine-done.ensures)
