-- `tempo_of` meets its contract: field by field.
use Rattle.engine_samples.proofs.waiting.tempo_of.Goals as goal

pub returns : goal.returns
returns c = rw c.from.ensures
