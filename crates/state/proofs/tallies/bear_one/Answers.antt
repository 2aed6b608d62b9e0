-- `bear_one` meets its contract: the callees' answers, put together.
use Rattle.state.specs.Tallies.{born_one}
use Rattle.state.proofs.tallies.bear_one.Goals as goal

pub returns : goal.returns
unfolding born_one
returns c = rw (c.hash-decision_hash.ensures, c.wrapping_add_usize-held.ensures.value)
