-- `rate_in` meets its contract: a case for each field.
use Rattle.std.proofs.Common.{sym, refl, ◌∙◌}
use Rattle.sequences.specs.Pick.{took, skipped}
use Rattle.mask_files.proofs.rate.rate_in.Goals as goal

pub returns-then-lawful_rate : goal.returns-then-lawful_rate
returns-then-lawful_rate c = rw c.in-Rate.is (took _ _ _ _ (sym c.lawful_rate.ensures ∙ c.if-lawful_rate.true) refl)

pub returns-else-lawful_rate : goal.returns-else-lawful_rate
returns-else-lawful_rate c = rw c.in-Rate.is (skipped _ _ _ _ (sym c.lawful_rate.ensures ∙ c.if-lawful_rate.false) refl)
