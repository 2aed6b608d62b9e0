-- What the loop of `take_turns` keeps, and the measure by which it ends.
use Rattle.std.proofs.Common.{◌-◌, length}
use Rattle.listing.proofs.Going.{Going}
use Rattle.listing.proofs.turns.take_turns.Given as goal

abbrev pub invariant-loop-field : goal.invariant-loop-field
invariant-loop-field l = Going l.until l.script l.initial.run l.n-2 l.at-2 l.run l.n l.at

abbrev pub decreases-loop-field : goal.decreases-loop-field
decreases-loop-field l = length l.script - l.at
