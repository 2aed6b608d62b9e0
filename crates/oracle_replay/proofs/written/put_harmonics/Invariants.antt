-- What the loop of `put_harmonics` keeps.
use Prim.Native.Nat.{◌-◌}
use lib.ListN.{get_or}
use lib.Ieee.{nan}
use Rattle.oracle_replay.specs.Numbers.{harmonic_words}
use Rattle.oracle_replay.specs.State.{words_bytes}
use Rattle.text.proofs.Joined.{Pieces}
use Rattle.oracle_replay.proofs.written.put_harmonics.Given as goal

abbrev pub invariant-loop-i : goal.invariant-loop-i
invariant-loop-i l = Pieces (λ k. words_bytes (harmonic_words (get_or l.logs k nan) (get_or l.defaults k nan) (get_or l.weights k nan))) 24 l.initial.out l.initial.at l.out l.i l.at
