-- `gains` meets its contract: a test for each length, then the rule of depth and activity.
use mathlib.Core.Path.{refl, sym, ◌∙◌}
use borrow.Author.Tests.{eq-eqb, ne_eqb}
use Rattle.sequences.specs.Pick.{took, skipped}
use Rattle.mask_gains.specs.Gains.{gains_of}
use Rattle.mask_gains.proofs.Cases.{quiet-gains, loud-gains}
use Rattle.mask_gains.proofs.gain.gains.Goals as goal

pub returns-then-output-scratch : goal.returns-then-output-scratch
unfolding gains_of
returns-then-output-scratch c = skipped _ _ _ _ (ne_eqb _ _ c.if-output-scratch.true) refl

pub returns-then-output-logs : goal.returns-then-output-logs
unfolding gains_of
returns-then-output-logs c = took _ _ _ _ (eq-eqb _ _ c.if-output-scratch.false) (skipped _ _ _ _ (ne_eqb _ _ c.if-output-logs.true) refl)

pub returns-then-quiet : goal.returns-then-quiet
returns-then-quiet c =
    quiet-gains _ _ _ _ _ c.if-output-scratch.false c.if-output-logs.false _ _ (sym c.quiet.ensures ∙ c.if-quiet.true) c.ones.ensures

pub shape-requires : goal.shape-requires
shape-requires c = (c.if-output-scratch.false, c.if-output-logs.false)

pub returns : goal.returns
returns c =
    loud-gains _ _ _ _ _ c.if-output-scratch.false c.if-output-logs.false _ _ (sym c.quiet.ensures ∙ c.if-quiet.false) c.level.ensures c.shape.ensures
