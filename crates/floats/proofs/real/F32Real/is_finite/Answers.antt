-- `is_finite` at f32 meets its contract: the library's test is the same.
use Rattle.std.proofs.Common.{◌∙◌}
use Rattle.floats.proofs.Library.{finite-is}
use Rattle.floats.proofs.real.F32Real.is_finite.Goals as goal

pub returns : goal.returns
returns c = c.is_finite.ensures.value ∙ finite-is c.args.self
