-- `free_voice` meets its contract: the callees' answers, put together.
use Rattle.births.specs.Voices.{free_voice_of}
use Rattle.births.proofs.voices.free_voice.Goals as goal

pub returns : goal.returns
unfolding free_voice_of
returns c = rw (c.free_frequency-frequency_hz.ensures, c.max_hz.ensures)
