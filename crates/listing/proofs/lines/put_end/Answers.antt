-- `put_end` meets its contract: the pieces in a row.
use Rattle.text.proofs.Laws.{one, next}
use Rattle.listing.specs.Lines.{end_pieces}
use Rattle.listing.proofs.lines.put_end.Goals as goal

pub returns : goal.returns
unfolding end_pieces
returns c =
    let all = next (next (one c.put-a.ensures) (one c.put_dec-a.ensures)) (one c.put.ensures) in
    (all.place, all.buffer)
