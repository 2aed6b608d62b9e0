-- `log_at` meets its contract: one test.
use Rattle.sequences.specs.Pick.{picked, skipped}
use borrow.Author.Tests.{eq-eqb, ne_eqb}
use Rattle.mask_gains.specs.Bins.{log_at}
use Rattle.mask_gains.proofs.bins.log_at.Goals as goal

pub returns-then-bin-eq0 : goal.returns-then-bin-eq0
unfolding log_at
returns-then-bin-eq0 c = picked _ _ _ (eq-eqb _ _ c.if-bin-eq0.true)

pub returns : goal.returns
unfolding log_at
returns c = skipped _ _ _ _ (ne_eqb _ _ c.if-bin-eq0.false) cc
