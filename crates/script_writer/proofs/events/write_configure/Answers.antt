-- `write_configure` meets its contract: its tag and its value.
use Rattle.script_writer.specs.Encoded.{encoded}
use Rattle.script_writer.proofs.events.write_configure.Goals as goal

pub returns : goal.returns
unfolding encoded
returns c = rw c.config_value.ensures at c.write_tagged.ensures
