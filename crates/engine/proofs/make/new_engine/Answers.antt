-- `new_engine` meets its contract: a lawful rate, or 48,000.
use mathlib.Core.Path.{sym, ap, ◌∙◌}
use Rattle.sequences.specs.Pick.{took, skipped}
use Rattle.state.specs.Make.{new_on}
use Rattle.engine.specs.New.{new_engine_of}
use Rattle.state.specs.State.{taken, refused}
use Rattle.refusals.specs.declared.Refusal.TheVariants.{Rate}
use Rattle.engine.proofs.make.new_engine.Goals as goal

pub returns-then-lawful_rate : goal.returns-then-lawful_rate
unfolding new_engine_of
returns-then-lawful_rate c = took _ _ _ _ (sym c.lawful_rate.ensures ∙ c.if-lawful_rate.true) (c.take.ensures ∙ ap taken (c.from_prepared.ensures ∙ ap new_on c.prepare.ensures))

pub returns : goal.returns
unfolding new_engine_of
returns c = skipped _ _ _ _ (sym c.lawful_rate.ensures ∙ c.if-lawful_rate.false) (c.refuse.ensures ∙ ap (refused Rate) (c.from_prepared-engine.ensures ∙ ap new_on c.prepare-2.ensures))
