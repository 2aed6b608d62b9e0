-- `start` meets its contract: a fresh run.
use Rattle.mask_files.specs.Walk.{walk_start}
use Rattle.mask_files.proofs.frames.start.Goals as goal

pub returns : goal.returns
unfolding walk_start
returns c = rw c.fresh-run.ensures
