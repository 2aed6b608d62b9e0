-- What the loop of `weights` keeps, and the measure by which it ends.
use Rattle.std.proofs.Common.{◌-◌, get_or}
use Rattle.sequences.specs.Table.{Filled}
use lib.Ieee.{neg, nan}
use Rattle.floats.specs.Names.{mul32}
use Rattle.powers.specs.Power.{db_to_gain}
use Rattle.state.proofs.make.weights.Given as goal

abbrev pub invariant-loop-i : goal.invariant-loop-i
invariant-loop-i l = Filled (λ k. db_to_gain (mul32 (neg l.rolloff_db) (get_or l.partial_logs k nan))) 24 l.i l.out

abbrev pub decreases-loop-i : goal.decreases-loop-i
decreases-loop-i l = 24 - l.i
