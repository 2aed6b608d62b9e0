-- `entry_for` meets its contract: a tenth is at most 600, so that the table has it.
use Rattle.mask_records.proofs.Nearest.{tenths_most}
use native.Mathlib.Omega.{arith}
use Rattle.mask_records.proofs.entry.entry_for.Goals as goal

pub offset_bounds-gains-n : goal.offset_bounds-gains-n
offset_bounds-gains-n c = omega (arith, tenths_most c.args.attenuation)

pub bounds-gains-n : goal.bounds-gains-n
bounds-gains-n c = omega (arith, tenths_most c.args.attenuation)

pub returns : goal.returns
returns c = cc
