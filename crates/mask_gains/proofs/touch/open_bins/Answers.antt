-- `open_bins` meets its contract: a test for each refusal, in 01's order, then the walk over shut bins.
use Rattle.std.specs.Prelude.{Ok}
use Prim.Native.Nat.{ℕ}
use mathlib.Core.Path.{refl, sym, ap, ◌∙◌}
use mathlib.Core.List.{List}
use borrow.Author.Tests.{eq-eqb, ne_eqb}
use lib.Ieee.{Float}
use Rattle.sequences.specs.Pick.{took, skipped}
use Rattle.sequences.specs.Table.{table}
use Rattle.floats.specs.Names.{zero32}
use Rattle.refusals.specs.Numbers.{Answer}
use Rattle.mask_gains.specs.Opened.{open_at, opened_of}
use Rattle.mask_gains.proofs.Ordered.{sorted}
use Rattle.mask_gains.proofs.touch.open_bins.Goals as goal

taken-with : List Float → Answer × List Float
taken-with ys = (Ok tt, ys)

pub returns-then-scratch-logs : goal.returns-then-scratch-logs
unfolding opened_of
returns-then-scratch-logs c = skipped _ _ _ _ (ne_eqb _ _ c.if-scratch-logs.true) refl

pub walk-requires : goal.walk-requires
walk-requires c =
    (c.clear.ensures ∙ ap (λ (n : ℕ). table n (λ i. zero32)) c.if-scratch-logs.false, sorted _ c.shared_slice_known-1.given (sym c.lawful.ensures ∙ c.if-lawful.true))

pub returns-then-lawful : goal.returns-then-lawful
unfolding opened_of taken-with
returns-then-lawful c =
    let a = c.args in
    took _ _ _ _ (eq-eqb _ _ c.if-scratch-logs.false) (took _ _ _ _ (sym c.lawful.ensures ∙ c.if-lawful.true) (ap taken-with (c.walk.ensures ∙ ap (λ (n : ℕ). table n (open_at a.windows a.logs.now)) (sym c.if-scratch-logs.false))))

pub returns : goal.returns
unfolding opened_of
returns c = took _ _ _ _ (eq-eqb _ _ c.if-scratch-logs.false) (skipped _ _ _ _ (sym c.lawful.ensures ∙ c.if-lawful.false) refl)
