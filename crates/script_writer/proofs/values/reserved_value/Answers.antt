-- `reserved_value` meets its contract: number by number.
use Rattle.script_writer.proofs.values.reserved_value.Goals as goal

pub returns : goal.returns
returns c = rw (c.bytes64-i.ensures, c.bytes16-s.ensures)
