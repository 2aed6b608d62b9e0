-- `depth` meets its contract: one quotient.
use Rattle.masks.proofs.depth.Goals as goal

pub returns : goal.returns
returns c = rw c.u64_to_f32.ensures
