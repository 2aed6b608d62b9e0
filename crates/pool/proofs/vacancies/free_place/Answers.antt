-- `free_place` meets its contract: the library's `position` finds the first free one.
use Rattle.std.proofs.Common.{◌∙◌, rules, tests}
use Rattle.std.proofs.lemmas.Iterator.{YieldsList-from_slice}
use Rattle.std.proofs.lemmas.Iterator.Search.{position_from_yields_List}
use Rattle.pool.proofs.Lowest.{vacant-sought}
use Rattle.pool.proofs.vacancies.free_place.Goals as goal

pub returns : goal.returns
returns c = position_from_yields_List _ _ _ _ c.position.ensures.ran (YieldsList-from_slice c.args.particles cc) (λ x b q k. search (rules, tests)) ∙ vacant-sought c.args.particles (search rules)
