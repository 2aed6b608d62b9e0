-- `amplitude` meets its contract: the callees' answers, put together.
use Rattle.frame.specs.Shown.{amplitude_of, passed_of}
use Rattle.frame.proofs.places.amplitude.Goals as goal

pub returns : goal.returns
unfolding amplitude_of passed_of
returns c = rw (c.fade.ensures, c.envelope.ensures, c.f64_to_f32-x.ensures, c.seconds.ensures)
