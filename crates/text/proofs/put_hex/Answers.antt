-- `put_hex` meets its contract: the digits that `io::hex` writes.
use Rattle.std.proofs.Common.{ℕ, arith, subst}
use Rattle.io.specs.Digits.{IsDigitCount}
use Rattle.text.proofs.Number.{hex-text}
use Rattle.text.proofs.put_hex.Goals as goal

pub returns : goal.returns
returns g c =
    let a = c.args in
    let d = c.hex-k in
    let w = g.row.DIGITS in
    rw (hex-text w a.n d.result c.requires.2 (subst (λ (k : ℕ). IsDigitCount 16 k a.n d.result) (omega (arith, c.requires.0, c.requires.1)) d.ensures.len) d.ensures.digits) at c.put.ensures
