-- `next` meets its contract: the callees' answers, put together.
use Rattle.timing.specs.Starts.{next_of}
use Rattle.timing.proofs.starts.next.Goals as goal

pub returns : goal.returns
unfolding next_of
returns c = rw (c.human-human.ensures, c.gap-gap.ensures, c.start-start.ensures, c.nearest_u64_to_f64-second.ensures, c.nearest_u64_to_f64-group.ensures)
