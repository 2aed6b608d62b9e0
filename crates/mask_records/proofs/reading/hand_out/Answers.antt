-- `hand_out` meets its contract: an entry for each place.
use Rattle.sequences.specs.Table.{filled_none, filled_more, filled-all}
use mathlib.Core.Path.{refl}
use Rattle.mask_records.proofs.reading.hand_out.Goals as goal

pub loop-i-init : goal.loop-i-init
loop-i-init c = filled_none _ _ _ refl

pub loop-i-preserved : goal.loop-i-preserved
loop-i-preserved c = filled_more c.loop-i.invariant _ c.loop-i-test.true c.be16_at.ensures

pub returns : goal.returns
returns c = filled-all c.loop-i.invariant c.loop-i-test.false
