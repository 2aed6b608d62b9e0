-- `nth` meets its contract: the n-th slot that the filter passes.
use Rattle.std.proofs.Common.{sym, ap, ◌∙◌, rules, tests}
use Rattle.std.specs.Option.{option_map}
use Rattle.std.proofs.lemmas.Iterator.{YieldsList-from_slice}
use Rattle.std.proofs.lemmas.Iterator.Consumers.{YieldsList-at, YieldsList-from_enumerate, YieldsList-from_filter, nth_from_yields_List}
use Rattle.sources.specs.Choosing.{is_alternative}
use Rattle.sources.proofs.Nth.{nth_some, nth_none}
use Rattle.sources.proofs.choice.nth.Goals as goal

pub returns-in-Some : goal.returns-in-Some
returns-in-Some c =
    nth_some c.args.last c.args.sources c.args.n (c.in-Some.i, c.in-Some.field-0-1.now)
    (ap (option_map (λ p. (p.0, p.1.now))) (sym c.in-Some.is)
    ∙ nth_from_yields_List c.nth-nth.result c.nth-nth.new.self c.args.n c.nth-nth.ensures.ran
    (YieldsList-from_filter _ (λ p. is_alternative c.args.last p.0 p.1)
    (YieldsList-at c.filter.ensures.source (YieldsList-from_enumerate (YieldsList-at c.enumerate.ensures.source (YieldsList-from_slice c.args.sources cc)) cc))
    c.filter.ensures.closure (λ x b q k. search (rules, tests))))

pub returns-in-None : goal.returns-in-None
returns-in-None c =
    nth_none c.args.last c.args.sources c.args.n
    (ap (option_map (λ p. (p.0, p.1.now))) (sym c.in-None.is)
    ∙ nth_from_yields_List c.nth-nth.result c.nth-nth.new.self c.args.n c.nth-nth.ensures.ran
    (YieldsList-from_filter _ (λ p. is_alternative c.args.last p.0 p.1)
    (YieldsList-at c.filter.ensures.source (YieldsList-from_enumerate (YieldsList-at c.enumerate.ensures.source (YieldsList-from_slice c.args.sources cc)) cc))
    c.filter.ensures.closure (λ x b q k. search (rules, tests))))
