-- `touch` meets its contract: the two searches give the range.
use native.Mathlib.Omega.{arith}
use lib.Ieee.{binary32}
use lib.Ieee.Fits.{sub-fits, add-fits}
use Rattle.mask_gains.proofs.Ranges.{raised_off, raised_short, raised_none, raised_range}
use Rattle.mask_gains.proofs.touch.touch.Goals as goal

pub returns-then-w : goal.returns-then-w
returns-then-w c = raised_off _ _ _ c.requires.0 c.if-w.true

pub returns-then-logs-lt2 : goal.returns-then-logs-lt2
returns-then-logs-lt2 c = raised_short _ _ _ c.requires.0 c.if-logs-lt2.true

pub first_from-start-requires : goal.first_from-start-requires
first_from-start-requires c =
    (c.if-logs-lt2.false, c.requires.1.under _ (sub-fits binary32 c.args.w.center_log2_hz c.args.w.radius_octaves))

pub first_past-end-requires : goal.first_past-end-requires
first_past-end-requires c =
    (c.if-logs-lt2.false, c.requires.1.upto _ (add-fits binary32 c.args.w.center_log2_hz c.args.w.radius_octaves))

pub raise-requires : goal.raise-requires
raise-requires c = (c.requires.0, omega (arith, c.if-start-end.true), c.first_past-end.ensures.high, c.requires.2)

pub returns-then-start-end : goal.returns-then-start-end
returns-then-start-end c = raised_range _ _ _ c.requires.0 _ _ c.first_from-start.ensures c.first_past-end.ensures _ c.if-w.false c.raise.ensures

pub returns-else-start-end : goal.returns-else-start-end
returns-else-start-end c = raised_none _ _ _ c.requires.0 _ _ c.first_from-start.ensures c.first_past-end.ensures (omega (arith, c.if-start-end.false))
