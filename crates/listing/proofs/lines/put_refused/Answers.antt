-- `put_refused` meets its contract: the pieces in a row.
use Rattle.text.proofs.Laws.{one, row, next}
use Rattle.listing.specs.Lines.{refused_pieces}
use Rattle.listing.proofs.lines.put_refused.Goals as goal

pub returns : goal.returns
unfolding refused_pieces
returns c =
    let all = next (row c.put_field-a.ensures) (one c.put.ensures) in
    (all.place, all.buffer)
