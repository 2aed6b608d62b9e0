-- `offset` meets its contract: one test.
use Rattle.sequences.specs.Pick.{took, cases}
use Rattle.pitch.specs.Cloud.{offset_of}
use Rattle.std.proofs.Common.{rules}
use Rattle.pitch.proofs.cloud.offset.Goals as goal

pub returns-then-target-mass : goal.returns-then-target-mass
unfolding offset_of
returns-then-target-mass c = took _ _ _ _ (search rules) cc

pub returns : goal.returns
unfolding offset_of
returns c = search (rules, cases)
