-- `put_word` meets its contract: one piece.
use Rattle.text.proofs.Laws.{piece}
use Rattle.oracle_replay.proofs.written.put_word.Goals as goal

pub returns : goal.returns
returns c = rw c.bytes64-bytes.ensures at (piece c.put.ensures)
