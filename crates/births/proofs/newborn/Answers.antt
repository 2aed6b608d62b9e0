-- `newborn` meets its contract: the callees' answers, put together.
use Rattle.births.specs.Births.{newborn_of}
use Rattle.births.proofs.newborn.Goals as goal

pub returns : goal.returns
unfolding newborn_of
returns c = rw (c.decay_power.ensures, c.from.ensures, c.partials-partials.ensures, c.strength-strength.ensures, c.width-width.ensures, c.register-register.ensures, c.envelope-contour.ensures, c.f64_to_f32.ensures, c.max_hz-max_hz.ensures)
