-- `sprinkle_register` meets its contract: the callees' answers, put together.
use Rattle.pitch.specs.Octave.{upper_of, register_of}
use Rattle.pitch.proofs.octaves.sprinkle_register.Goals as goal

pub returns : goal.returns
unfolding register_of upper_of
returns c = rw (c.register_strength.ensures, c.octave-octave.ensures, c.log2-root_log.ensures, c.min-upper.ensures, c.upward-upward.ensures)
