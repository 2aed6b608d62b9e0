-- `single` meets its contract: the bytes of the bits.
use mathlib.Core.Path.{ap, ◌∙◌}
use Rattle.big_endian.specs.Bytes.{bytes32}
use Rattle.big_endian.proofs.single.Goals as goal

pub returns : goal.returns
returns c = c.bytes32.ensures ∙ ap bytes32 c.bits.ensures
