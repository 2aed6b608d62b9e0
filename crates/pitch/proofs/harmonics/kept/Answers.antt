-- `kept` meets its contract: two tests.
use Rattle.std.proofs.Common.{rules, le-leb}
use borrow.Author.Tests.{lt-leb}
use Rattle.sequences.specs.Pick.{took, skipped}
use Rattle.pitch.specs.Partials.{kept_of}
use Rattle.pitch.proofs.harmonics.kept.Goals as goal

pub returns-then-i-limit : goal.returns-then-i-limit
unfolding kept_of
returns-then-i-limit c = took _ _ _ _ (le-leb _ _ c.if-i-limit.true) (search rules)

pub returns : goal.returns
unfolding kept_of
returns c = skipped _ _ _ _ (lt-leb _ _ c.if-i-limit.false) cc
