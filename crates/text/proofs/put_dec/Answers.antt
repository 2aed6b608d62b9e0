-- `put_dec` meets its contract: the digits that `io::decimal` writes.
use Rattle.text.proofs.Number.{decimal-text}
use Rattle.text.proofs.put_dec.Goals as goal

pub returns : goal.returns
returns c =
    let a = c.args in
    let d = c.decimal-k in
    rw (decimal-text a.n d.result c.ranges.n.fits d.ensures.len d.ensures.digits) at c.put.ensures
