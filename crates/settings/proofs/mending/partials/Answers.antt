-- `partials` meets its contract: the tests in order.
use Rattle.sequences.specs.Pick.{picked, passed, skipped}
use borrow.Author.Tests.{lt-ltb, le-ltb}
use Rattle.settings.specs.Mending.{partials_held}
use Rattle.settings.proofs.mending.partials.Goals as goal

pub returns-then-n-lt1 : goal.returns-then-n-lt1
unfolding partials_held
returns-then-n-lt1 c = picked _ _ _ (lt-ltb _ _ c.if-n-lt1.true)

pub returns-then-n-gt-MAX_PARTIALS : goal.returns-then-n-gt-MAX_PARTIALS
unfolding partials_held
returns-then-n-gt-MAX_PARTIALS c = skipped _ _ _ _ (le-ltb _ _ c.if-n-lt1.false) (picked _ _ _ (lt-ltb _ _ c.if-n-gt-MAX_PARTIALS.true))

pub returns : goal.returns
unfolding partials_held
returns c = skipped _ _ _ _ (le-ltb _ _ c.if-n-lt1.false) (passed _ _ _ (le-ltb _ _ c.if-n-gt-MAX_PARTIALS.false))
