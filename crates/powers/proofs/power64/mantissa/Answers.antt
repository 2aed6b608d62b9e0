-- `mantissa` meets its contract: the callees' answers, put together; `high` is at most its second factor, so each sum fits.
use Rattle.std.proofs.Common.{arith}
use Rattle.powers.specs.Exp64.{exp_mantissa}
use Rattle.powers.proofs.power64.mantissa.Goals as goal

pub returns : goal.returns
unfolding exp_mantissa
returns c = (cc, omega arith)
