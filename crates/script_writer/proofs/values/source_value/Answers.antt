-- `source_value` meets its contract: number by number.
use Rattle.script_writer.proofs.values.source_value.Goals as goal

pub returns : goal.returns
returns c = rw (c.flag.ensures, c.single-g.ensures, c.single-f.ensures, c.bytes16-s.ensures)
