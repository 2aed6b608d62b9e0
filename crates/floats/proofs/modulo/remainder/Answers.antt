-- `remainder` meets its contract: `Rem.rem_inside` and `Once.rem_once` for the early answers.
use lib.Ieee.{binary64, of_bits}
use denote.Floats.{passes}
use Rattle.floats.proofs.Remainders.{rem_inside}
use Rattle.floats.proofs.Once.{rem_once}
use Rattle.floats.proofs.modulo.remainder.Goals as goal

pub returns-then-m-x : goal.returns-then-m-x
unfolding of_bits
returns-then-m-x c = rem_inside binary64 c.args.x c.args.m (passes _ c.well_formed.0.1) c.if-x.true c.if-m-x.true

pub returns-then-m-rest : goal.returns-then-m-rest
unfolding of_bits
returns-then-m-rest c =
    rem_once binary64 c.args.x c.args.m (passes _ c.well_formed.1.0.1) c.if-x.true c.if-m-x.false c.if-m.true c.if-m-rest.true
