-- `write_rate` meets its contract: its tag and its value.
use Rattle.script_writer.specs.Encoded.{encoded}
use Rattle.script_writer.proofs.events.write_rate.Goals as goal

pub returns : goal.returns
unfolding encoded
returns c = rw c.single.ensures at c.write_tagged.ensures
