-- `ones` meets its contract: one test.
use Rattle.std.specs.Prelude.{Ok}
use mathlib.Core.Path.{refl, sym, ap, ◌∙◌}
use mathlib.Core.List.{List}
use lib.Ieee.{Float}
use Rattle.sequences.specs.Pick.{took, skipped}
use Rattle.refusals.specs.Numbers.{Answer}
use Rattle.mask_gains.specs.Gains.{ones_of}
use Rattle.mask_gains.proofs.gain.ones.Goals as goal

taken-with : List Float → Answer × List Float
taken-with ys = (Ok tt, ys)

pub returns-then-lawful : goal.returns-then-lawful
unfolding ones_of taken-with
returns-then-lawful c = took _ _ _ _ (sym c.lawful.ensures ∙ c.if-lawful.true) (ap taken-with c.fill_ones.ensures)

pub returns : goal.returns
unfolding ones_of
returns c = skipped _ _ _ _ (sym c.lawful.ensures ∙ c.if-lawful.false) refl
