-- `select_partials` meets its contract: the callees' answers, put together.
use Rattle.pitch.proofs.Turns.{count_most}
use Rattle.pitch.specs.Partials.{partials_of}
use Rattle.pitch.proofs.harmonics.select_partials.Goals as goal

pub drawn-requires : goal.drawn-requires
drawn-requires c = rw c.count-count.ensures (count_most _)

pub returns : goal.returns
unfolding partials_of
returns c = cc
