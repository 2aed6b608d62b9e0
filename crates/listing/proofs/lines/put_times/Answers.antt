-- `put_times` meets its contract: the pieces in a row.
use Rattle.text.proofs.Laws.{one, next}
use Rattle.listing.specs.Lines.{times_pieces}
use Rattle.listing.proofs.lines.put_times.Goals as goal

pub returns : goal.returns
unfolding times_pieces
returns c =
    let all = next (next (next (next (next (one c.put-a.ensures) (one c.put_dec-a.ensures)) (one c.put-a-2.ensures)) (one c.put_dec-a-2.ensures)) (one c.put-a-3.ensures)) (one c.put_dec.ensures) in
    (all.place, all.buffer)
