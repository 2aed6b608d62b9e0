-- `write_record` meets its contract: a test for each refusal in order, then the rule of depth and activity.
use borrow.Author.Tests.{lt-ltb, le-ltb, eq-eqb, ne_eqb}
use Rattle.sequences.specs.Pick.{took, skipped}
use Rattle.mask_records.specs.Written.{record_written}
use Rattle.mask_records.proofs.Ways.{quiet_written, loud_written}
use mathlib.Core.Path.{refl, sym, ◌∙◌}
use Rattle.mask_records.proofs.write.write_record.Goals as goal

pub returns-then-scratch-logs : goal.returns-then-scratch-logs
unfolding record_written
returns-then-scratch-logs c = skipped _ _ _ _ (ne_eqb _ _ c.if-scratch-logs.true) refl

pub returns-then-logs-lt1 : goal.returns-then-logs-lt1
unfolding record_written
returns-then-logs-lt1 c = took _ _ _ _ (eq-eqb _ _ c.if-scratch-logs.false) (took _ _ _ _ (sym c.lawful.ensures ∙ c.if-lawful.true) (took _ _ _ _ (lt-ltb _ _ c.if-logs-lt1.true) refl))

pub returns-then-logs-gt8193 : goal.returns-then-logs-gt8193
unfolding record_written
returns-then-logs-gt8193 c = took _ _ _ _ (eq-eqb _ _ c.if-scratch-logs.false) (took _ _ _ _ (sym c.lawful.ensures ∙ c.if-lawful.true) (skipped _ _ _ _ (le-ltb _ _ c.if-logs-lt1.false) (took _ _ _ _ (lt-ltb _ _ c.if-logs-gt8193.true) refl)))

pub returns-then-quiet : goal.returns-then-quiet
returns-then-quiet c = quiet_written _ _ _ _ _ _ _ c.if-scratch-logs.false (sym c.lawful.ensures ∙ c.if-lawful.true) c.if-logs-lt1.false c.if-logs-gt8193.false (sym c.quiet.ensures ∙ c.if-quiet.true) _ _ c.quiet-then-quiet.ensures

pub loud-requires : goal.loud-requires
loud-requires c = (c.if-logs-gt8193.false, c.if-scratch-logs.false, sym c.lawful.ensures ∙ c.if-lawful.true)

pub returns-then-lawful : goal.returns-then-lawful
returns-then-lawful c = loud_written _ _ _ _ _ _ _ c.if-scratch-logs.false (sym c.lawful.ensures ∙ c.if-lawful.true) c.if-logs-lt1.false c.if-logs-gt8193.false (sym c.quiet.ensures ∙ c.if-quiet.false) _ c.level.ensures _ c.loud.ensures

pub returns : goal.returns
unfolding record_written
returns c = took _ _ _ _ (eq-eqb _ _ c.if-scratch-logs.false) (skipped _ _ _ _ (sym c.lawful.ensures ∙ c.if-lawful.false) refl)
