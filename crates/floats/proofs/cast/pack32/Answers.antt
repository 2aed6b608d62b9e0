-- `pack32` meets its contract: the lesser of a pattern and the infinity's is no NaN's.
use Rattle.std.proofs.Common.{◌+◌, ◌*◌, ap, arith}
use lib.Ieee.{binary32, of_bits}
use Rattle.floats.proofs.Narrow.{no_nan}
use Rattle.floats.proofs.cast.pack32.Goals as goal

pub float_from_bits-result : goal.float_from_bits-result
float_from_bits-result c = no_nan binary32 (c.args.k * 8388608 + c.args.q) (omega arith)

pub float_from_bits-result-else-p-lt2139095040 : goal.float_from_bits-result-else-p-lt2139095040
float_from_bits-result-else-p-lt2139095040 c = no_nan binary32 2139095040 (omega arith)

pub returns-then-p-lt2139095040 : goal.returns-then-p-lt2139095040
returns-then-p-lt2139095040 c = ap (of_bits binary32) (omega arith)

pub returns-else-p-lt2139095040 : goal.returns-else-p-lt2139095040
returns-else-p-lt2139095040 c = ap (of_bits binary32) (omega arith)
