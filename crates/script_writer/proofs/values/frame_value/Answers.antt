-- `frame_value` meets its contract: number by number.
use Rattle.script_writer.proofs.values.frame_value.Goals as goal

pub returns : goal.returns
returns c = rw (c.single-s.ensures, c.single-b.ensures)
