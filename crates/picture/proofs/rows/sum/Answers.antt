-- `sum` meets its contract: the library's sum.
use Rattle.std.proofs.Common.{◌∙◌, rules}
use Rattle.std.proofs.lemmas.Iterator.{YieldsList-from_slice, YieldsList-from_map}
use Rattle.std.proofs.lemmas.Iterator.Consumers.{YieldsList-at, sum_by_from_yields_List}
use Rattle.picture.proofs.Bins.{sum_is}
use Rattle.picture.proofs.rows.sum.Goals as goal

pub returns : goal.returns
returns c =
    sum_by_from_yields_List (λ x. x) c.args.entries.now c.map.result _ c.sum.ensures.ran
    (YieldsList-from_map _ (λ x. x) (YieldsList-at c.map.ensures.source (YieldsList-from_slice c.args.entries.now cc)) c.map.ensures.closure (λ x r q k. search rules))
    ∙ sum_is c.args.entries.now
