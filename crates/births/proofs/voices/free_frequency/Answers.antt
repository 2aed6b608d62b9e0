-- `free_frequency` meets its contract: a case for each shape.
use Rattle.births.specs.Voices.{free_hz_of}
use Rattle.births.proofs.voices.free_frequency.Goals as goal

pub returns-in-Sprinkle : goal.returns-in-Sprinkle
unfolding free_hz_of
returns-in-Sprinkle c = rw (c.free_root.ensures, c.in-Sprinkle.is)

pub returns-in-Cloud : goal.returns-in-Cloud
unfolding free_hz_of
returns-in-Cloud c = rw (c.free_cloud_frequency.ensures, c.in-Cloud.is)
