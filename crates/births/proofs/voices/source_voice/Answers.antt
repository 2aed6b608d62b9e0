-- `source_voice` meets its contract: its strength is held to 0 and 1.
use Rattle.births.specs.Voices.{source_voice_of}
use Rattle.births.proofs.voices.source_voice.Goals as goal

pub returns : goal.returns
unfolding source_voice_of
returns c = rw c.clamp.ensures
