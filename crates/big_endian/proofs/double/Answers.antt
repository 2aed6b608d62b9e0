-- `double` meets its contract: the bytes of the bits.
use mathlib.Core.Path.{ap, ◌∙◌}
use Rattle.big_endian.specs.Bytes.{bytes64}
use Rattle.big_endian.proofs.double.Goals as goal

pub returns : goal.returns
returns c = c.bytes64.ensures ∙ ap bytes64 c.bits.ensures
