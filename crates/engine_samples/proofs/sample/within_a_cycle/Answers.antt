-- `within_a_cycle` meets its contract: `Inside.euclid_inside` for a number from 0 up to below 1.
use lib.Ieee.{binary64, of_bits}
use denote.Floats.{passes}
use Rattle.floats.proofs.Inside.{euclid_inside}
use Rattle.engine_samples.proofs.sample.within_a_cycle.Goals as goal

pub returns-then-x-2 : goal.returns-then-x-2
unfolding of_bits
returns-then-x-2 c = euclid_inside binary64 c.args.x _ (passes _ c.well_formed.0.1) c.if-x.true c.if-x-2.true
