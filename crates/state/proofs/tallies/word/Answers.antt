-- `word` meets its contract by computation.
use Rattle.std.proofs.Common.{refl}
use Rattle.state.specs.Tallies.{particle_word}
use Rattle.state.proofs.tallies.word.Goals as goal

pub returns : goal.returns
unfolding particle_word
returns c = refl
