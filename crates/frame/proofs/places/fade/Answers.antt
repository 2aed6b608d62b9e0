-- `fade` meets its contract: the two cases of a retirement.
use Rattle.std.proofs.Common.{◌≡◌, refl}
use lib.Ieee.{binary32, of_bits, lt, mul, sub}
use Rattle.floats.specs.Names.{sub32, f64, one}
use Rattle.floats.specs.Choose.{clamp}
use Rattle.floats.specs.Convert.{convert}
use Rattle.windows.specs.Opening.{taper_of, cubic}
use Rattle.frame.specs.Freed.{retirement_of}
use Rattle.frame.specs.Shown.{fade_of}
use Rattle.frame.proofs.places.fade.Goals as goal

-- at 0 of a retirement nothing is taken away
in-full : one ≡ taper_of (sub32 one (convert binary32 (f64 0)))
unfolding taper_of cubic clamp convert of_bits lt mul sub
in-full = refl

pub returns-in-None : goal.returns-in-None
unfolding fade_of retirement_of
returns-in-None c = rw c.in-None.is in-full

pub returns-in-Some : goal.returns-in-Some
unfolding fade_of
returns-in-Some c = rw (c.taper.ensures, c.f64_to_f32.ensures, c.retirement.ensures)
