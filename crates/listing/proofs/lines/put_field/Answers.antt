-- `put_field` meets its contract: the pieces in a row.
use Rattle.text.proofs.Laws.{one, next}
use Rattle.listing.specs.Lines.{field_pieces}
use Rattle.listing.proofs.lines.put_field.Goals as goal

pub returns : goal.returns
unfolding field_pieces
returns c =
    let word = next (next (one c.put-a.ensures) (one c.put_dec-a.ensures)) (one c.put-a-2.ensures) in
    let number = one (rw c.from.ensures at c.put_dec.ensures) in
    let all = next word number in
    (all.place, all.buffer)
