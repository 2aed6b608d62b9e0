-- `put_streams` meets its contract: piece by piece.
use mathlib.Core.Path.{ap, ◌∙◌}
use mathlib.Core.Bool.{false}
use Rattle.timing.specs.Streams.{new_of}
use Rattle.sequences.specs.Default.{get_d_any}
use Rattle.oracle_replay.specs.Numbers.{stream_words}
use Rattle.oracle_replay.specs.State.{words_bytes, streams_bytes}
use Rattle.text.proofs.Joined.{none_yet, one_more, all_there}
use borrow.Author.Rules.{rules}
use Rattle.oracle_replay.proofs.written.put_streams.Goals as goal

pub loop-stream-init : goal.loop-stream-init
loop-stream-init c = none_yet _ _ _ _

pub loop-stream-preserved : goal.loop-stream-preserved
loop-stream-preserved c =
    let l = c.loop-stream in
    let a = c.args in
    let here = get_d_any a.streams l.stream-index _ (new_of 0 false) (search rules) in
    one_more l.invariant (search rules) (ap words_bytes (c.stream-words.ensures ∙ ap stream_words here)) c.put_words-at.ensures

pub shape_of-out : goal.shape_of-out
shape_of-out c = c.loop-stream.invariant.same

pub returns : goal.returns
unfolding streams_bytes
returns c = all_there c.loop-stream.invariant (search rules)
