-- `write_source` meets its contract: its tag and its value.
use Rattle.script_writer.specs.Encoded.{encoded}
use Rattle.script_writer.proofs.events.write_source.Goals as goal

pub returns : goal.returns
unfolding encoded
returns c = rw c.source_value.ensures at c.write_tagged.ensures
