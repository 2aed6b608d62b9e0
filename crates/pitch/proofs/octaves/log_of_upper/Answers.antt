-- `log_of_upper` meets its contract: the logarithm of 4186.01 is computed once.
use Rattle.std.proofs.Common.{sym, ◌∙◌}
use Rattle.pitch.proofs.Logs.{log_of_top, log_by_bits}
use denote.Floats.{passes}
use Rattle.pitch.proofs.octaves.log_of_upper.Goals as goal

pub returns-then-bits-eq1166200852 : goal.returns-then-bits-eq1166200852
returns-then-bits-eq1166200852 c = sym (log_by_bits c.args.hz 0x4582d014 _ (passes _ c.well_formed.0.1) (sym c.bits.ensures ∙ c.if-bits-eq1166200852.true) log_of_top)
