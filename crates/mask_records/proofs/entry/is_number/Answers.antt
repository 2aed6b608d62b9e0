-- `is_number` meets its contract: only a NaN differs from itself.
use Rattle.floats.proofs.Facts.{eq_self}
use Rattle.mask_records.proofs.entry.is_number.Goals as goal

pub returns : goal.returns
returns c = eq_self c.args.a
