-- `count` meets its contract: the tests in order.
use Rattle.sequences.specs.Pick.{cases}
use Rattle.pitch.specs.Partials.{partial_count}
use Rattle.std.proofs.Common.{rules}
use Rattle.pitch.proofs.harmonics.count.Goals as goal

pub returns-then-draw-cumulative : goal.returns-then-draw-cumulative
unfolding partial_count
returns-then-draw-cumulative c = search (rules, cases)

pub returns-then-draw-cumulative-2 : goal.returns-then-draw-cumulative-2
unfolding partial_count
returns-then-draw-cumulative-2 c = search (rules, cases)

pub returns : goal.returns
unfolding partial_count
returns c = search (rules, cases)
