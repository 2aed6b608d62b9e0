-- `prepare` meets its contract: the callees' answers, put together.
use Rattle.timing.specs.Streams.{prepared_stream}
use Rattle.timing.proofs.prepare.Goals as goal

pub returns : goal.returns
unfolding prepared_stream
returns c = rw (c.emit.ensures, c.next.ensures, c.sprinkle_key-key.ensures)
