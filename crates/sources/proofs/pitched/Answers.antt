-- `pitched` meets its contract: one test, then the other.
use mathlib.Core.Path.{sym, refl, ◌∙◌}
use Rattle.sequences.specs.Pick.{took, skipped}
use Rattle.sources.specs.Sources.{is_pitched}
use Rattle.sources.proofs.pitched.Goals as goal

pub returns-then-is_finite : goal.returns-then-is_finite
unfolding is_pitched
returns-then-is_finite c = took _ _ _ _ (sym c.is_finite.ensures ∙ c.if-is_finite.true) refl

pub returns-else-is_finite : goal.returns-else-is_finite
unfolding is_pitched
returns-else-is_finite c = skipped _ _ _ _ (sym c.is_finite.ensures ∙ c.if-is_finite.false) c.if-is_finite.false
