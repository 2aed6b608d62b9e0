-- `put_counts` meets its contract: the pieces in a row.
use Rattle.text.proofs.Laws.{one, next}
use Rattle.listing.specs.Lines.{counts_pieces}
use Rattle.listing.proofs.lines.put_counts.Goals as goal

pub returns : goal.returns
unfolding counts_pieces
returns c =
    let all = next (next (next (one c.put-a.ensures) (one c.put_dec-a.ensures)) (one c.put-a-2.ensures)) (one c.put_dec.ensures) in
    (all.place, all.buffer)
