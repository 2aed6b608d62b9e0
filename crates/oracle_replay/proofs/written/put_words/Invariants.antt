-- What the loop of `put_words` keeps.
use Prim.Native.Nat.{◌-◌}
use mathlib.Core.Path.{◌≡◌}
use lib.ListN.{length, get_or}
use Rattle.big_endian.specs.Bytes.{bytes64}
use Rattle.text.proofs.Joined.{Pieces}
use Rattle.oracle_replay.proofs.written.put_words.Given as goal

abbrev pub invariant-loop-word : goal.invariant-loop-word
invariant-loop-word l = (l.word-index-end ≡ length l.words) × Pieces (λ k. bytes64 (get_or l.words k 0)) (length l.words) l.initial.out l.initial.at l.out l.word-index l.at
