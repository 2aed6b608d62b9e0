-- `put_sources` meets its contract: piece by piece.
use mathlib.Core.Path.{ap, ◌∙◌}
use Rattle.sources.specs.Sources.{no_source}
use Rattle.sequences.specs.Default.{get_d_any}
use Rattle.oracle_replay.specs.Numbers.{source_words}
use Rattle.oracle_replay.specs.State.{words_bytes, sources_bytes}
use Rattle.text.proofs.Joined.{none_yet, one_more, all_there}
use borrow.Author.Rules.{rules}
use Rattle.oracle_replay.proofs.written.put_sources.Goals as goal

pub loop-source-init : goal.loop-source-init
loop-source-init c = none_yet _ _ _ _

pub loop-source-preserved : goal.loop-source-preserved
loop-source-preserved c =
    let l = c.loop-source in
    let a = c.args in
    let here = get_d_any a.sources l.source-index _ no_source (search rules) in
    one_more l.invariant (search rules) (ap words_bytes (c.source-words.ensures ∙ ap source_words here)) c.put_words-at.ensures

pub shape_of-out : goal.shape_of-out
shape_of-out c = c.loop-source.invariant.same

pub returns : goal.returns
unfolding sources_bytes
returns c = all_there c.loop-source.invariant (search rules)
