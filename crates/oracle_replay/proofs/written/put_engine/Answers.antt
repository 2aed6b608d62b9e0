-- `put_engine` meets its contract: group by group.
use mathlib.Core.Path.{◌∙◌}
use Rattle.text.proofs.Laws.{seq}
use Rattle.oracle_replay.specs.State.{state_bytes}
use Rattle.oracle_replay.proofs.Whole.{words_are}
use Rattle.oracle_replay.proofs.written.put_engine.Goals as goal

pub shape_of-out : goal.shape_of-out
shape_of-out c =
    c.put_particles.ensures.same
    ∙ c.put_sources-a.ensures.same
    ∙ c.put_streams-a.ensures.same
    ∙ c.put_harmonics-a.ensures.same
    ∙ c.put_words-a-3.ensures.same
    ∙ c.put_words-a-2.ensures.same
    ∙ c.put_words-a.ensures.same

pub returns : goal.returns
unfolding state_bytes
returns c =
    let counts = words_are c.counts-counted.ensures c.put_words-a.ensures in
    let chosen = words_are c.config-chosen.ensures c.put_words-a-2.ensures in
    let rates = words_are c.prepared-rates.ensures c.put_words-a-3.ensures in
    seq (seq (seq (seq (seq (seq counts chosen) rates) c.put_harmonics-a.ensures) c.put_streams-a.ensures) c.put_sources-a.ensures) c.put_particles.ensures
