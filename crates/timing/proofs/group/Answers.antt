-- `group` meets its contract: the callees' answers, put together.
use Rattle.timing.specs.Streams.{group_of}
use Rattle.timing.proofs.group.Goals as goal

pub returns : goal.returns
unfolding group_of
returns c = rw (c.wrapping_mul.ensures, c.to_u64.ensures, c.max.ensures, c.floor-groups.ensures)
