-- `opened` meets its contract: a fold over the windows.
use Rattle.std.proofs.Common.{◌∙◌, rules, tests}
use Rattle.std.proofs.lemmas.Iterator.{YieldsList-from_slice}
use Rattle.std.proofs.lemmas.Iterator.Consumers.{fold_from_yields_List}
use Rattle.sequences.specs.Chains.{folds}
use Rattle.floats.specs.Names.{zero32}
use Rattle.windows.specs.Attenuation.{opening, opened_by}
use Rattle.windows.proofs.attenuation.opened.Goals as goal

pub returns : goal.returns
unfolding opened_by
returns c =
    fold_from_yields_List _ (λ o w. opening c.args.log2_hz 0 w o) zero32 _ c.fold.ensures.ran (YieldsList-from_slice c.args.windows cc) (λ a x b q k. search (rules, tests))
    ∙ folds (λ o w. opening c.args.log2_hz 0 w o) c.args.windows zero32
