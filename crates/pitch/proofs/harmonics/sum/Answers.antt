-- `sum` meets its contract: the library's sum begins at -0.0 too.
use Rattle.std.proofs.Common.{◌∙◌}
use Rattle.std.proofs.lemmas.Iterator.{YieldsList-from_slice}
use Rattle.floats.specs.Names.{add32, minus_zero32}
use Rattle.sequences.specs.Chains.{folds, summed}
use Rattle.pitch.specs.Partials.{sum_of}
use Rattle.pitch.proofs.harmonics.sum.Goals as goal

pub returns : goal.returns
unfolding sum_of
returns c =
    summed (λ s w. add32 s w) minus_zero32 _ c.sum.ensures.ran (YieldsList-from_slice c.args.weights cc)
    ∙ folds (λ s w. add32 s w) c.args.weights minus_zero32
