-- `write_reset` meets its contract: its tag and its value.
use Rattle.script_writer.specs.Encoded.{encoded}
use Rattle.script_writer.proofs.events.write_reset.Goals as goal

pub returns : goal.returns
unfolding encoded
returns c = c.write_tagged.ensures
