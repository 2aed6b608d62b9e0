-- `abs` at f32 meets its contract: by `Sign`, over the format.
use Rattle.std.proofs.Common.{sym, ap, ◌∙◌}
use lib.Ieee.{binary32}
use lib.Ieee.Compare.{differs_from_itself}
use denote.Floats.{passes}
use Rattle.floats.specs.Choose.{abs}
use Rattle.floats.proofs.Facts.{no_nan}
use Rattle.floats.proofs.Sign.{abs-back, abs_no_nan}
use Rattle.floats.proofs.real.F32Real.abs.Goals as goal

pub float_to_bits-result : goal.float_to_bits-result
float_to_bits-result c = no_nan c.args.self c.if-self.false

pub float_from_bits-result : goal.float_from_bits-result
float_from_bits-result c = abs_no_nan binary32 c.args.self (passes _ c.well_formed.0.1) (no_nan c.args.self c.if-self.false)

pub returns-then-self : goal.returns-then-self
unfolding abs
returns-then-self c = let e = differs_from_itself c.args.self (passes _ c.if-self.true) in e ∙ ap abs (sym e)

pub returns-else-self : goal.returns-else-self
returns-else-self c = abs-back binary32 c.args.self (passes _ c.well_formed.0.1) (no_nan c.args.self c.if-self.false)
