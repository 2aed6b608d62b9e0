-- What the loop of `put_sources` keeps.
use Prim.Native.Nat.{◌-◌}
use lib.ListN.{get_or}
use Rattle.sources.specs.Sources.{no_source}
use Rattle.oracle_replay.specs.Numbers.{source_words}
use Rattle.oracle_replay.specs.State.{words_bytes}
use Rattle.text.proofs.Joined.{Pieces}
use Rattle.oracle_replay.proofs.written.put_sources.Given as goal

abbrev pub invariant-loop-source : goal.invariant-loop-source
invariant-loop-source l = Pieces (λ k. words_bytes (source_words (get_or l.source-items k no_source))) 256 l.initial.out l.initial.at l.out l.source-index l.at
