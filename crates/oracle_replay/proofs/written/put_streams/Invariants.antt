-- What the loop of `put_streams` keeps.
use Prim.Native.Nat.{◌-◌}
use lib.ListN.{get_or}
use mathlib.Core.Bool.{false}
use Rattle.timing.specs.Streams.{new_of}
use Rattle.oracle_replay.specs.Numbers.{stream_words}
use Rattle.oracle_replay.specs.State.{words_bytes}
use Rattle.text.proofs.Joined.{Pieces}
use Rattle.oracle_replay.proofs.written.put_streams.Given as goal

abbrev pub invariant-loop-stream : goal.invariant-loop-stream
invariant-loop-stream l = Pieces (λ k. words_bytes (stream_words (get_or l.stream-items k (new_of 0 false)))) 3 l.initial.out l.initial.at l.out l.stream-index l.at
