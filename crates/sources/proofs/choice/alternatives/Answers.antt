-- `alternatives` meets its contract: the slots that the filter passes are counted.
use Rattle.std.proofs.Common.{◌∙◌, rules, tests}
use Rattle.std.proofs.lemmas.Iterator.{YieldsList-from_slice}
use Rattle.std.proofs.lemmas.Iterator.Consumers.{YieldsList-at, YieldsList-from_enumerate, YieldsList-from_filter, count_from_yields_List}
use Rattle.sequences.specs.Chains.{counts}
use Rattle.sources.specs.Choosing.{is_alternative}
use Rattle.sources.proofs.choice.alternatives.Goals as goal

pub returns : goal.returns
returns c =
    count_from_yields_List c.filter.result _ c.count.ensures.ran
    (YieldsList-from_filter _ (λ p. is_alternative c.args.last p.0 p.1)
    (YieldsList-at c.filter.ensures.source (YieldsList-from_enumerate (YieldsList-at c.enumerate.ensures.source (YieldsList-from_slice c.args.sources cc)) cc))
    c.filter.ensures.closure (λ x b q k. search (rules, tests)))
    ∙ counts (is_alternative c.args.last) c.args.sources
