-- `checked` meets its contract: one test.
use Rattle.sequences.specs.Pick.{picked, passed}
use borrow.Author.Tests.{lt-ltb, le-ltb}
use Rattle.settings.specs.Settings.{checked_of}
use Rattle.settings.proofs.checked.Goals as goal

pub returns-then-config-gt-MAX_HOP_SAMPLES : goal.returns-then-config-gt-MAX_HOP_SAMPLES
unfolding checked_of
returns-then-config-gt-MAX_HOP_SAMPLES c = picked _ _ _ (lt-ltb _ _ c.if-config-gt-MAX_HOP_SAMPLES.true)

pub returns-else-config-gt-MAX_HOP_SAMPLES : goal.returns-else-config-gt-MAX_HOP_SAMPLES
unfolding checked_of
returns-else-config-gt-MAX_HOP_SAMPLES c = passed _ _ _ (le-ltb _ _ c.if-config-gt-MAX_HOP_SAMPLES.false)
