-- `floor` at f64 meets its contract: the library's is the same number.
use Rattle.std.proofs.Common.{◌∙◌}
use lib.Ieee.{binary64}
use Rattle.floats.proofs.Library.{floor-is}
use Rattle.floats.proofs.real.F64Real.floor.Goals as goal

pub returns : goal.returns
returns c = c.floor.ensures ∙ floor-is binary64 c.args.self
