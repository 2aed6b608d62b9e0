-- `upward` meets its contract: a case for each direction.
use Rattle.pitch.specs.Octave.{upward_of}
use Rattle.pitch.proofs.octaves.upward.Goals as goal

pub returns-in-Forward : goal.returns-in-Forward
unfolding upward_of
returns-in-Forward c = rw c.in-Forward.is

pub returns-in-Reverse : goal.returns-in-Reverse
unfolding upward_of
returns-in-Reverse c = rw c.in-Reverse.is

pub returns-in-Alternate : goal.returns-in-Alternate
unfolding upward_of
returns-in-Alternate c = rw c.in-Alternate.is
