-- `put_frame` meets its contract: the pieces in a row.
use Rattle.text.proofs.Laws.{row, one, next}
use Rattle.listing.specs.Lines.{times_pieces, counts_pieces, marks_pieces, frame_pieces}
use Rattle.listing.proofs.lines.put_frame.Goals as goal

pub returns : goal.returns
unfolding frame_pieces times_pieces counts_pieces marks_pieces
returns c =
    let all = next (next (next (next (next (one c.put-a.ensures) (one c.put_dec-a.ensures)) (row c.put_times-a.ensures)) (row c.put_counts-a.ensures)) (row c.put_marks-a.ensures)) (one c.put.ensures) in
    (all.place, all.buffer)
