-- `put_words` meets its contract: number by number.
use mathlib.Core.Path.{refl}
use native.Mathlib.Omega.{arith}
use Rattle.oracle_replay.specs.State.{words_bytes}
use Rattle.text.proofs.Joined.{none_yet, one_more, all_there}
use Rattle.oracle_replay.proofs.written.put_words.Goals as goal

pub loop-word-init : goal.loop-word-init
loop-word-init c = (refl, none_yet _ _ _ _)

pub loop-word-preserved : goal.loop-word-preserved
loop-word-preserved c =
    let l = c.loop-word in
    (l.invariant.0, one_more l.invariant.1 (omega (arith, c.loop-word-test.true, l.invariant.0)) refl c.put_word-at.ensures)

pub shape_of-out : goal.shape_of-out
shape_of-out c = c.loop-word.invariant.1.same

pub returns : goal.returns
unfolding words_bytes
returns c = all_there c.loop-word.invariant.1 (omega (arith, c.loop-word-test.false, c.loop-word.invariant.0))
