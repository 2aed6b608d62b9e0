-- `choose` meets its contract: by the count of alternatives.
use mathlib.Core.Path.{sym, ◌∙◌}
use Rattle.sequences.specs.Pick.{took, skipped}
use borrow.Author.Tests.{eq-eqb, ne_eqb}
use Rattle.sources.specs.Choosing.{chosen_of}
use Rattle.sources.proofs.choice.choose.Goals as goal

pub returns-then-n-eq0 : goal.returns-then-n-eq0
unfolding chosen_of
returns-then-n-eq0 c = took _ _ _ _ (eq-eqb _ _ (sym c.alternatives-n.ensures ∙ c.if-n-eq0.true)) c.nth.ensures

pub returns : goal.returns
unfolding chosen_of
returns c = skipped _ _ _ _ (ne_eqb _ _ (λ e. c.if-n-eq0.false (c.alternatives-n.ensures ∙ e))) (cc)
