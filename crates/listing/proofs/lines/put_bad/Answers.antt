-- `put_bad` meets its contract: the pieces in a row.
use Rattle.text.proofs.Laws.{one, row, next}
use Rattle.listing.specs.Lines.{field_pieces, bad_pieces}
use Rattle.listing.proofs.lines.put_bad.Goals as goal

pub returns : goal.returns
unfolding bad_pieces field_pieces
returns c =
    let place = next (next (row c.put_field-a.ensures) (one c.put-a.ensures)) (one c.put_dec-a.ensures) in
    let all = next place (one c.put.ensures) in
    (all.place, all.buffer)
