-- `fill_ones` meets its contract: the same at each place.
use Rattle.std.proofs.Common.{◌∙◌, rules}
use Rattle.sequences.specs.Table.{table_same_value}
use Rattle.mask_gains.proofs.gain.fill_ones.Goals as goal

pub returns : goal.returns
returns c = c.fill.ensures.after (λ y e. search rules) ∙ table_same_value _ _
