-- `put_harmonics` meets its contract: piece by piece.
use mathlib.Core.Path.{ap}
use Rattle.oracle_replay.specs.State.{words_bytes, harmonics_bytes}
use Rattle.text.proofs.Joined.{none_yet, one_more, all_there}
use borrow.Author.Rules.{rules}
use Rattle.oracle_replay.proofs.written.put_harmonics.Goals as goal

pub loop-i-init : goal.loop-i-init
loop-i-init c = none_yet _ _ _ _

pub loop-i-preserved : goal.loop-i-preserved
loop-i-preserved c =
    one_more c.loop-i.invariant (search rules) (ap words_bytes c.harmonic-words.ensures) c.put_words-at.ensures

pub shape_of-out : goal.shape_of-out
shape_of-out c = c.loop-i.invariant.same

pub returns : goal.returns
unfolding harmonics_bytes
returns c = all_there c.loop-i.invariant (search rules)
