-- `put_marks` meets its contract: the pieces in a row.
use Rattle.text.proofs.Laws.{one, next}
use Rattle.listing.specs.Lines.{marks_pieces}
use Rattle.listing.proofs.lines.put_marks.Goals as goal

pub returns : goal.returns
unfolding marks_pieces
returns c =
    let all = next (next (next (one c.put-a.ensures) (one c.put_hex64-a.ensures)) (one c.put-a-2.ensures)) (one c.put_hex32.ensures) in
    (all.place, all.buffer)
