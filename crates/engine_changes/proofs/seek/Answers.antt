-- `seek` meets its contract: one step after the other.
use Rattle.engine_changes.specs.Changes.{retired_all, sought_of}
use Rattle.engine_changes.proofs.seek.Goals as goal

pub returns : goal.returns
unfolding sought_of retired_all
returns c = rw (c.align_streams.ensures, c.sought_opportunity-engine.ensures, c.from-phase_offset.ensures, c.sought_phase-phase.ensures, c.retire_all.ensures)
