-- `head` meets its contract: byte by byte.
use Rattle.mask_records.specs.Bytes.{head_of}
use Rattle.mask_records.proofs.place.head.Goals as goal

pub returns : goal.returns
unfolding head_of
returns c = rw (c.bytes16-size.ensures, c.bytes16-n.ensures, c.bytes64-s.ensures)
