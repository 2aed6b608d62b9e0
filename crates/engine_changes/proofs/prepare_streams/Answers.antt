-- `prepare_streams` meets its contract: one stream after the other.
use Rattle.engine_changes.specs.Changes.{prepared_at, prepared_all}
use Rattle.engine_changes.proofs.prepare_streams.Goals as goal

pub returns : goal.returns
unfolding prepared_all prepared_at
returns c = rw (c.prepare-third.ensures, c.prepare-second.ensures, c.prepare-first.ensures)
